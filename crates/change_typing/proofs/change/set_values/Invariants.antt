-- The values so far, and what is left.
use Rattle.std.proofs.Common.{◌≡◌, ◌++◌, Ok, drop, length}
use Rattle.expr_typing.specs.Scope.{sources}
use Rattle.typing_rules.specs.Changes.{set_values}
use Rattle.typing_rules.specs.Outcome.{and_then}
use Rattle.change_typing.specs.Targets.{targets}
use Rattle.change_typing.proofs.change.set_values.Given as goal

abbrev pub invariant-loop-at : goal.invariant-loop-at
invariant-loop-at l =
    (and_then (set_values (sources l.scope) (targets (drop (length l.yielded) l.fn.columns)) (drop (length l.yielded) l.fn.set)) (λ rest. Ok (l.values ++ rest))
    ≡ set_values (sources l.scope) (targets l.fn.columns) l.fn.set)
    × (goal.iterator-loop-at).can_next l.at-iterator × (goal.iterator-loop-at).is_finite l.at-iterator
