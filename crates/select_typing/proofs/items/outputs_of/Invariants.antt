-- What is left of the items, after the columns so far.
use Rattle.std.proofs.Common.{◌≡◌, [], drop}
use Rattle.typing_rules.specs.Select.{items_from}
use Rattle.expr_typing.specs.Scope.{sources}
use Rattle.select_typing.specs.Outputs.{outputs}
use Rattle.select_typing.proofs.items.outputs_of.Given as goal

abbrev pub invariant-loop-item : goal.invariant-loop-item
invariant-loop-item l = items_from l.place (sources l.scope) (outputs l.outputs) (drop l.item-index l.items)
    ≡ items_from l.place (sources l.scope) [] l.items
