-- An IN mentions what its left operand and its members mention.
use Rattle.std.proofs.Common.{◌||◌, sym}
use Rattle.std.specs.List.{list_any}
use Rattle.typing_rules.specs.Mentions.{mentions}
use Rattle.typing_parts.proofs.Marking.{marked_then, marked_as}
use Rattle.typing_parts.proofs.Mentioning.{mentions-in}
use Rattle.typing_parts.proofs.marks.+marks.Goals as goal

pub mark-returns-in-In : goal.mark-returns-in-In
mark-returns-in-In t c =
    marked_as c.args.marks.now c.mark_each.new.marks (λ k. mentions c.args.entry k c.in-In.left || list_any (mentions c.args.entry k) c.in-In.members) (λ k. mentions c.args.entry k c.args.expr.now)
    (marked_then c.args.marks.now c.mark-in-In.new.marks c.mark_each.new.marks (λ k. mentions c.args.entry k c.in-In.left) (λ k. list_any (mentions c.args.entry k) c.in-In.members)
    (rw c.get-in-In.ensures at c.mark-in-In.ensures) (rw c.as_slice.ensures at c.mark_each.ensures))
    (λ k. sym (mentions-in c.args.entry k c.args.expr.now c.in-In.left c.in-In.members c.in-In.field-2 c.in-In.is))
