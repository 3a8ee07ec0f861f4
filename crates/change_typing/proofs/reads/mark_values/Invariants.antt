-- The columns of the values so far are marked.
use Rattle.std.proofs.Common.{take}
use Rattle.std.specs.List.{list_any}
use Rattle.typing_rules.specs.Mentions.{mentions}
use Rattle.typing_parts.specs.Marked.{IsMarked}
use Rattle.change_typing.proofs.reads.mark_values.Given as goal

abbrev pub invariant-loop-expr : goal.invariant-loop-expr
invariant-loop-expr l = IsMarked l.fn.marks l.marks (λ c. list_any (λ a. mentions 0 c a.1) (take l.expr-index l.set))
