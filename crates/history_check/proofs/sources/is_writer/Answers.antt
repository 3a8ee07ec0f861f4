use Rattle.std.proofs.Common.{arith, inl, refl}
use Rattle.history_check.proofs.sources.is_writer.Goals as goal

pub returns-then-number-eq0 : goal.returns-then-number-eq0
returns-then-number-eq0 c = (λ h. inl c.if-number-eq0.true, λ writes. refl)

pub returns : goal.returns
returns c = (λ h. (c.is_later_writer.ensures.0 h).1, λ writes. c.is_later_writer.ensures.1 (let other = c.if-number-eq0.false in omega arith, writes))
