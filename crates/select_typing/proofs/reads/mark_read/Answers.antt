-- Three walks, one after another.
use Rattle.std.proofs.Common.{Bool}
use Rattle.sql_tree.specs.declared.typed_expr.TypedExpr.{TypedExpr}
use Rattle.typing_rules.specs.Select.{mentions_table}
use Rattle.select_typing.specs.Entries.{entries}
use Rattle.select_typing.proofs.ReadColumns.{marked_all}
use Rattle.select_typing.proofs.reads.mark_read.Goals as goal

pub returns : goal.returns
returns c =
    marked_all c.args.marks.now c.mark_exprs.new.marks c.mark_exprs-2.new.marks c.mark_terms.new.marks
    (λ k. mentions_table c.args.number k 0 (entries c.args.entries.now)) (λ (t : TypedExpr × Bool). t.0)
    c.args.read.now.conditions.now c.args.read.now.items.now c.args.read.now.order.now c.mark_exprs.ensures c.mark_exprs-2.ensures
    c.mark_terms.ensures
