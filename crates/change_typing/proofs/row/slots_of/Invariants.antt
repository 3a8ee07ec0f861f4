-- What is left goes to the slots over what stands there.
use Rattle.std.proofs.Common.{◌≡◌, Option, None, Ok, replicate, drop, length}
use Rattle.sql_tree.specs.declared.typed_expr.TypedExpr.{TypedExpr}
use Rattle.typing_rules.specs.Insert.{cells}
use Rattle.typing_rules.specs.Outcome.{and_then}
use Rattle.change_typing.specs.Rows.{put}
use Rattle.change_typing.specs.Targets.{targets}
use Rattle.change_typing.proofs.row.slots_of.Given as goal

abbrev pub invariant-loop-at : goal.invariant-loop-at
invariant-loop-at l =
    (and_then (cells (targets (drop (length l.yielded) l.fn.columns)) (drop (length l.yielded) l.fn.row)) (λ es. Ok (put l.slots.items (targets (drop (length l.yielded) l.fn.columns)) es))
    ≡ and_then (cells (targets l.fn.columns) l.fn.row) (λ es. Ok (put (replicate {A = Option TypedExpr} l.fn.count None) (targets l.fn.columns) es)))
    × (goal.iterator-loop-at).can_next l.at-iterator × (goal.iterator-loop-at).is_finite l.at-iterator
