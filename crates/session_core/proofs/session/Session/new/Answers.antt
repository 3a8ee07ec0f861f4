use Rattle.std.proofs.Common.{[], sym, subst, refl}
use Rattle.client_framing.specs.Fronts.{Held}
use Rattle.session_core.specs.declared.phase.Phase.TheVariants as phases
use Rattle.session_core.specs.declared.stage.SessionStage.TheVariants as stages
use Rattle.session_core.specs.Stands.{StandsFor}
use Rattle.session_core.proofs.Grows.{StandsFor-new}
use Rattle.session_core.proofs.session.Session.new.Goals as goal

pub returns-clause-empty : goal.returns-clause-empty
returns-clause-empty c =
    let runner = c.in_ok-new-2.field-0 in
    record {
      stage =
          subst (λ (held : Held). StandsFor (stages.Waiting phases.Startup) runner c.new-3.result.items held [] [] [] [])
          (sym c.new.ensures)
          (StandsFor-new c.args.level runner c.new-3.result.items c.in_ok-new-2.ensures.known);
      short = refl;
      number = refl;
    }
