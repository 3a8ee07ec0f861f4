use Rattle.std.proofs.Common.{subst, sym}
use Rattle.std.specs.Prelude.{IfSome}
use Rattle.bit_rows.specs.declared.line.Line.{Line}
use Rattle.bit_rows.specs.Lines.{IsJoinedRun}
use Rattle.bit_rows.proofs.line.joined.Goals as goal

pub returns-in-InRun : goal.returns-in-InRun
returns-in-InRun c =
    subst (λ (l : Line). IfSome c.joined.result (λ both. IsJoinedRun l c.args.run.first c.args.run.end both.first both.end))
    (sym c.in-InRun.is) c.joined.ensures
