use Rattle.std.proofs.Common.{◌≡◌, length, reverse}
use Rattle.typing_rules.specs.Literals as spec
use Rattle.expr_typing.proofs.literal.before_blanks.Given as goal

abbrev pub invariant-loop-bytes : goal.invariant-loop-bytes
invariant-loop-bytes l = spec.after_blanks (reverse l.bytes) ≡ spec.after_blanks (reverse l.fn.bytes)

abbrev pub decreases-loop-bytes : goal.decreases-loop-bytes
decreases-loop-bytes l = length l.bytes
