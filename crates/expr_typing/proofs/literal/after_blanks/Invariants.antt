use Rattle.std.proofs.Common.{◌≡◌, length}
use Rattle.typing_rules.specs.Literals as spec
use Rattle.expr_typing.proofs.literal.after_blanks.Given as goal

abbrev pub invariant-loop-bytes : goal.invariant-loop-bytes
invariant-loop-bytes l = spec.after_blanks l.bytes ≡ spec.after_blanks l.fn.bytes

abbrev pub decreases-loop-bytes : goal.decreases-loop-bytes
decreases-loop-bytes l = length l.bytes
