use Rattle.std.proofs.Common.{arith}
use Rattle.right_logs.proofs.kept.is_harmless_early.Goals as goal

pub returns-then-read-before : goal.returns-then-read-before
returns-then-read-before c = λ h early. absurd (omega arith)

pub returns-else-read-before : goal.returns-else-read-before
returns-else-read-before c = λ h early. c.is_no_rival.ensures h
