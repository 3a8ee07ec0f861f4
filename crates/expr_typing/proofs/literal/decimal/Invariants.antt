use Rattle.std.proofs.Common.{◌≡◌, ◌^◌, ◌-◌, min, take}
use Rattle.typing_rules.specs.Literals as spec
use Rattle.expr_typing.proofs.literal.decimal.Given as goal

abbrev pub invariant-loop-digit : goal.invariant-loop-digit
invariant-loop-digit l = l.number ≡ min (spec.decimal (take l.digit-index l.digits)) (2 ^ 64 - 1)
