-- What the expressions so far mention is marked.
use Rattle.std.proofs.Common.{take}
use Rattle.std.specs.List.{list_any}
use Rattle.typing_rules.specs.Select.{mentions_table}
use Rattle.typing_parts.specs.Marked.{IsMarked}
use Rattle.select_typing.specs.Entries.{entries}
use Rattle.select_typing.proofs.reads.mark_exprs.Given as goal

abbrev pub invariant-loop-expr : goal.invariant-loop-expr
invariant-loop-expr l = IsMarked l.initial.marks l.marks (λ c. list_any (mentions_table l.number c 0 (entries l.entries)) (take l.expr-index l.exprs))
