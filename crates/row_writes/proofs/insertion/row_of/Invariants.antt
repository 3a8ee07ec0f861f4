-- The values so far, and what is left.
use Rattle.std.proofs.Common.{◌≡◌, ◌++◌, Ok, drop, length}
use Rattle.typing_rules.specs.Outcome.{and_then}
use Rattle.row_meaning.specs.Insertion as spec
use Rattle.row_writes.proofs.insertion.row_of.Given as goal

abbrev pub invariant-loop-column : goal.invariant-loop-column
invariant-loop-column l =
    (and_then (spec.row_of (drop (length l.yielded) l.fn.columns) (drop (length l.yielded) l.fn.exprs)) (λ rest. Ok (l.row ++ rest)) ≡ spec.row_of l.fn.columns l.fn.exprs)
    × (goal.iterator-loop-column).can_next l.column-iterator × (goal.iterator-loop-column).is_finite l.column-iterator
