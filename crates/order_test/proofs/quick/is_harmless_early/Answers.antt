use Rattle.std.proofs.Common.{arith}
use Rattle.order_test.proofs.quick.is_harmless_early.Goals as goal

pub returns-then-number_in-read : goal.returns-then-number_in-read
returns-then-number_in-read c = λ h other early from rival. let n = c.number_in.ensures in absurd (omega arith)

pub returns : goal.returns
returns c = λ h other early. c.is_harmless.ensures h other
