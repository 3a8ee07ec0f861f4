use Rattle.std.proofs.Common.{arith}
use Rattle.sql_refusal.specs.Tables.{level_of}
use Rattle.sql_refusal.proofs.Turns.{at_none, at_opens}
use Rattle.sql_refusal.proofs.pass.+part.Goals as goal

pub returns-then-room-eq0 : goal.returns-then-room-eq0
returns-then-room-eq0 t c = at_none c.args.room (level_of c.args.level) c.args.ahead.now (omega arith)

pub returns : goal.returns
returns t c = rw (at_opens c.args.room (level_of c.args.level) c.args.ahead.now (omega arith)) (rw c.rule_of.ensures at c.pass.ensures)
