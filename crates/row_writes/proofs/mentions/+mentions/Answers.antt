-- An IN mentions what its left operand and its members mention.
use Rattle.std.proofs.Common.{◌||◌, sym, ap, ◌∙◌}
use Rattle.std.specs.List.{list_any}
use Rattle.typing_rules.specs.Mentions as spec
use Rattle.row_writes.proofs.Mentioning.{mentions-in}
use Rattle.row_writes.proofs.mentions.+mentions.Goals as goal

pub mentions-returns-else-mentions-2 : goal.mentions-returns-else-mentions-2
mentions-returns-else-mentions-2 t c =
    c.any_mentions.ensures ∙ ap (list_any (spec.mentions 0 c.args.column)) c.as_slice.ensures
    ∙ ap (λ m. m || list_any (spec.mentions 0 c.args.column) c.in-In.members)
    (sym (sym (c.mentions-in-In.ensures ∙ ap (spec.mentions 0 c.args.column) c.get-in-In.ensures) ∙ c.if-mentions-2.false))
    ∙ sym (mentions-in 0 c.args.column c.args.expr.now c.in-In.left c.in-In.members c.in-In.field-2 c.in-In.is)
