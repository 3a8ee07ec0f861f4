-- The rows so far, and what is left.
use Rattle.std.proofs.Common.{◌≡◌, map, drop}
use Rattle.typing_rules.specs.Outcome.{all_of}
use Rattle.row_meaning.specs.Insertion as spec
use Rattle.typing_rules.proofs.Lists.{with_rest}
use Rattle.row_writes.proofs.insertion.keyed_rows.Given as goal

abbrev pub invariant-loop-row : goal.invariant-loop-row
invariant-loop-row l = with_rest (spec.keyed_row l.table) l.made (drop l.row-index l.rows) ≡ all_of (map (spec.keyed_row l.table) l.rows)
