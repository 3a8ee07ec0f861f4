use Rattle.bit_rows.proofs.Shown.{popped_rows}
use Rattle.bit_rows.proofs.matrix.BitMatrix.pop.Goals as goal

pub returns : goal.returns
returns c = popped_rows c.self.inside.lines c.self.inside.rows c.args.self.now c.self.view_is c.self.invariant.1 c.requires
