use Rattle.std.proofs.Common.{arith}
use Rattle.bit_rows.proofs.Shown.{count_is}
use Rattle.bit_rows.proofs.matrix.BitMatrix.push.Goals as goal

pub add_row-requires-clause-few : goal.add_row-requires-clause-few
add_row-requires-clause-few c =
    let count = count_is c.self.inside.lines c.self.inside.rows c.args.self.now c.self.view_is c.self.invariant.1 in
    let few = c.requires in
    omega arith
