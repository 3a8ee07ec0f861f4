use Rattle.bit_rows.proofs.Shown.{count_is}
use Rattle.bit_rows.proofs.matrix.BitMatrix.len.Goals as goal

pub returns-clause-size : goal.returns-clause-size
returns-clause-size c = count_is c.self.inside.lines c.self.inside.rows c.args.self.now c.self.view_is c.self.invariant.1
