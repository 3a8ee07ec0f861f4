use Rattle.std.proofs.Common.{arith}
use Rattle.expr_typing.proofs.Digits.{digits_more}
use Rattle.expr_typing.proofs.literal.decimal.Goals as goal

pub loop-digit-preserved : goal.loop-digit-preserved
loop-digit-preserved c = digits_more c.args.digits.now c.loop-digit.digit-index c.loop-digit.number c.saturating_add-number.result (omega arith) c.loop-digit.invariant (cc)
