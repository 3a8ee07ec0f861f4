use Rattle.std.specs.Prelude.{vec_capacity}
use Rattle.bit_rows.proofs.RowLines.{line_raised}
use Rattle.bit_rows.proofs.lines.Lines.raise.Goals as goal

pub returns-clause-joined : goal.returns-clause-joined
returns-clause-joined c =
    let lines = c.args.self.now in
    let raised =
    line_raised lines.lines.items lines.pool.items lines.segments lines.room (vec_capacity lines.pool) c.args.target c.args.segment c.args.own
    c.args.end c.requires.target c.requires.holds c.requires.words c.requires.end in
    record { holds = raised.0; rows = raised.1 }
