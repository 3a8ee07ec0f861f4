-- Whether an aggregate is called is the same of the items that are left.
use Rattle.std.proofs.Common.{◌≡◌, drop}
use Rattle.std.specs.List.{list_any}
use Rattle.typing_rules.specs.Select.{item_calls}
use Rattle.select_typing.proofs.aggregates.items_call.Given as goal

abbrev pub invariant-loop-item : goal.invariant-loop-item
invariant-loop-item l = list_any item_calls (drop l.item-index l.items) ≡ list_any item_calls l.items
