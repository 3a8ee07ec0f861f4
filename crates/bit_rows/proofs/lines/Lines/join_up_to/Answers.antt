use Rattle.std.proofs.Common.{◌+◌, ◌<◌, arith}
use Rattle.bit_rows.specs.Matrix.{row_at}
use Rattle.bit_rows.specs.Lines.{rows_of}
use Rattle.bit_rows.proofs.RowLines.{line_joined_up_to, number_stays}
use Rattle.bit_rows.proofs.lines.Lines.join_up_to.Goals as goal

pub add_run-requires-clause-target : goal.add_run-requires-clause-target
add_run-requires-clause-target c =
    let target = c.requires.target in
    let same =
    number_stays c.args.target (row_at (rows_of c.args.self.now) c.args.number) c.args.self.now c.add_line.new.self c.add_line.ensures in
    omega arith

pub add_run-requires-clause-within : goal.add_run-requires-clause-within
add_run-requires-clause-within c n inside =
    let number = c.requires.number in
    let below : n < c.args.number + 1 = inside.1 in
    let same =
    number_stays c.args.target (row_at (rows_of c.args.self.now) c.args.number) c.args.self.now c.add_line.new.self c.add_line.ensures in
    let few = c.add_line.ensures.holds.few in
    omega arith

pub returns : goal.returns
returns c =
    line_joined_up_to c.args.target c.args.number c.args.self.now c.add_line.new.self c.add_run.new.self c.add_line.ensures c.add_run.ensures
