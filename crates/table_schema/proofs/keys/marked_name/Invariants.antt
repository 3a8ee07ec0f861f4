use Rattle.std.proofs.Common.{◌≡◌, ◌++◌, drop}
use Rattle.std.specs.Option.{option_map, option_to_list}
use Rattle.typing_rules.specs.Building.{marked}
use Rattle.table_schema.proofs.keys.marked_name.Given as goal

abbrev pub invariant-loop-column : goal.invariant-loop-column
invariant-loop-column l = marked l.columns ≡ option_to_list (option_map (λ n. n.now) l.marked) ++ marked (drop l.column-index l.columns)
