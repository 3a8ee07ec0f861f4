-- What the terms so far mention is marked.
use Rattle.std.proofs.Common.{take, Bool}
use Rattle.std.specs.List.{list_any}
use Rattle.sql_tree.specs.declared.typed_expr.TypedExpr.{TypedExpr}
use Rattle.typing_rules.specs.Select.{mentions_table}
use Rattle.typing_parts.specs.Marked.{IsMarked}
use Rattle.select_typing.specs.Entries.{entries}
use Rattle.select_typing.proofs.reads.mark_terms.Given as goal

abbrev pub invariant-loop-expr : goal.invariant-loop-expr
invariant-loop-expr l =
    IsMarked l.initial.marks l.marks (λ c. list_any (λ (t : TypedExpr × Bool). mentions_table l.number c 0 (entries l.entries) t.0)
    (take l.expr-index l.terms))
