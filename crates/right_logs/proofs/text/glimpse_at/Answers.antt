use Rattle.std.proofs.Common.{sym, subst}
use Rattle.right_logs.specs.declared.glimpse.Glimpse.{Glimpse}
use Rattle.right_logs.specs.Glimpses.{IsGlimpseOfEvents}
use Rattle.right_logs.proofs.text.glimpse_at.Goals as goal

pub seen_by-requires : goal.seen_by-requires
seen_by-requires c = (c.requires.0, c.in_ok-pass.ensures c.requires.0 c.requires.1)

pub returns-in-Ok : goal.returns-in-Ok
returns-in-Ok c = λ order placed holds.
    subst (λ (glimpse : Glimpse). IsGlimpseOfEvents c.args.version c.args.level c.args.text.now order glimpse) (sym c.glimpse_by.ensures)
    (c.in-Ok.ensures order (c.in_ok-pass.ensures order placed) holds)
