-- The columns that the expressions so far mention are marked.
use Rattle.std.proofs.Common.{take}
use Rattle.std.specs.List.{list_any}
use Rattle.typing_rules.specs.Mentions.{mentions}
use Rattle.typing_parts.specs.Marked.{IsMarked}
use Rattle.typing_parts.proofs.marks.+marks.Given as goal

abbrev pub invariant-mark_each-loop-expr : goal.invariant-mark_each-loop-expr
invariant-mark_each-loop-expr l = IsMarked l.fn.marks l.marks (λ c. list_any (mentions l.entry c) (take l.expr-index l.exprs))
