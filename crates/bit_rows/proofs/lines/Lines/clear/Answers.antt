use Rattle.std.proofs.Common.{◌∙◌, sym}
use Rattle.std.specs.Prelude.{vec_capacity}
use Rattle.bit_rows.proofs.RowLines.{line_cleared}
use Rattle.bit_rows.proofs.lines.Lines.clear.Goals as goal

pub returns-in-InRun : goal.returns-in-InRun
returns-in-InRun c =
    let lines = c.args.self.now in
    let cleared =
    line_cleared lines.lines.items lines.pool.items lines.segments lines.room (vec_capacity lines.pool) c.args.target c.in-InRun.field-0
    c.requires.target c.requires.holds (sym c.line.ensures ∙ c.in-InRun.is) in
    record { holds = cleared.0; rows = cleared.1 }
