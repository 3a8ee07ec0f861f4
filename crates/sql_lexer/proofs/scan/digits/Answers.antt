use Rattle.std.proofs.Common.{arith}
use Rattle.sql_lexer.proofs.Digits.{digits_more}
use Rattle.sql_lexer.proofs.scan.digits.Goals as goal

pub loop-b-preserved : goal.loop-b-preserved
loop-b-preserved c = digits_more c.args.z.now c.loop-b.b-index c.loop-b.n c.saturating_add-n.result (omega arith) c.loop-b.invariant (cc)
