-- The rows that were kept, and those to keep of what is left.
use Rattle.std.proofs.Common.{◌≡◌, ◌++◌, Ok, drop}
use Rattle.std.specs.Option.{option_map}
use Rattle.typing_rules.specs.Outcome.{and_then}
use Rattle.row_meaning.specs.Changes as changes
use Rattle.row_writes.specs.Seen.{rows_seen}
use Rattle.row_writes.proofs.kept.kept_rows.Given as goal

abbrev pub invariant-loop-row : goal.invariant-loop-row
invariant-loop-row l =
    and_then (changes.kept_rows (option_map (λ f. f.now) l.fn.filter) (drop l.row-index l.rows)) (λ more. Ok (rows_seen l.kept ++ more))
    ≡ changes.kept_rows (option_map (λ f. f.now) l.fn.filter) l.rows
