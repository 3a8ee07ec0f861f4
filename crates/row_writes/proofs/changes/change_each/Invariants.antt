-- The changes so far, and those of the rows that are left.
use Rattle.std.proofs.Common.{◌≡◌, ◌++◌, Ok, drop, map}
use Rattle.typing_rules.specs.Outcome.{and_then, all_of}
use Rattle.row_meaning.specs.Changes as spec
use Rattle.row_writes.specs.Seen.{rows_seen, changes_seen}
use Rattle.row_writes.proofs.changes.change_each.Given as goal

abbrev pub invariant-loop-row : goal.invariant-loop-row
invariant-loop-row l =
    and_then (all_of (map (spec.change_of l.table l.change) (rows_seen (drop l.row-index l.rows)))) (λ rest. Ok (changes_seen l.changes ++ rest))
    ≡ all_of (map (spec.change_of l.table l.change) (rows_seen l.rows))
