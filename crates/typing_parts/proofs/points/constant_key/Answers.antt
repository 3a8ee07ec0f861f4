-- An integer after a minus sign, as a key.
use Rattle.std.proofs.Common.{◌∙◌, sym, ap}
use Rattle.typing_rules.specs.Points.{negative_key}
use Rattle.typing_parts.specs.Readings.{reading}
use Rattle.typing_parts.proofs.Asking.{constant-neg}
use Rattle.typing_parts.proofs.points.constant_key.Goals as goal

pub returns-in-Neg : goal.returns-in-Neg
returns-in-Neg c e k =
    c.negative_key.ensures e k ∙ ap (λ x. negative_key (reading e k x).literal) c.get.ensures
    ∙ sym (constant-neg e k c.args.expr.now c.in-Neg.operand c.in-Neg.is)
