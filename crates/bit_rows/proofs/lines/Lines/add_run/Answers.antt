use Rattle.std.proofs.Common.{subst}
use Rattle.std.specs.Prelude.{vec_capacity}
use Rattle.bit_rows.specs.Lines.{IsJoinedRun}
use Rattle.bit_rows.specs.declared.line.Line.{Line}
use Rattle.bit_rows.proofs.RowLines.{run_lengthened}
use Rattle.bit_rows.proofs.lines.Lines.add_run.Goals as goal

pub returns-in-Some : goal.returns-in-Some
returns-in-Some c =
    let lines = c.args.self.now in
    let both = c.in-Some.both in
    let longer =
    run_lengthened lines.lines.items lines.pool.items lines.segments lines.room (vec_capacity lines.pool) c.args.target c.args.run both
    c.requires.target c.requires.holds
    (subst (λ (l : Line). IsJoinedRun l c.args.run.first c.args.run.end both.first both.end) c.line.ensures c.in-Some.ensures)
    c.requires.within in
    record { holds = longer.0; rows = longer.1 }
