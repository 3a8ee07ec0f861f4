-- An equation asks for the constant on the other side of the key.
use Rattle.std.proofs.Common.{sym, ◌∙◌}
use Rattle.typing_parts.proofs.Asking.{left_asks, right_asks}
use Rattle.typing_parts.proofs.points.asked.Goals as goal

pub returns-then-is_column : goal.returns-then-is_column
returns-then-is_column c =
    left_asks c.constant_key.result c.args.entry c.args.column c.args.left.now c.args.right.now (sym c.is_column.ensures ∙ c.if-is_column.true)
    c.constant_key.ensures

pub returns-then-is_column-2 : goal.returns-then-is_column-2
returns-then-is_column-2 c =
    right_asks c.constant_key-then-is_column-2.result c.args.entry c.args.column c.args.left.now c.args.right.now
    (sym c.is_column.ensures ∙ c.if-is_column.false)
    (sym c.is_column-else-is_column.ensures ∙ c.if-is_column-2.true) c.constant_key-then-is_column-2.ensures
