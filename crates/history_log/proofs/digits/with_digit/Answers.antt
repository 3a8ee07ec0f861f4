use Rattle.std.proofs.Common.{◌+◌, arith, refl}
use Rattle.history_log.proofs.DigitLemmas.{more_digits}
use Rattle.history_log.proofs.digits.with_digit.Goals as goal

pub returns-clause-spelled : goal.returns-clause-spelled
returns-clause-spelled c =
    more_digits c.args.number c.args.digit (48 + c.args.digit) c.requires.positive (let h = c.if-number-ge429496729.false in omega arith) c.requires.digit refl
