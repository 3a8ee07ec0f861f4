use Rattle.std.proofs.Common.{Bool, ap, [], ◌∙◌, subst}
use Rattle.std.specs.Prelude.{◌||◌}
use Rattle.session_core.specs.declared.stage.SessionStage.{SessionStage}
use Rattle.session_core.specs.Stands.{StandsFor}
use Rattle.session_core.specs.Steps.{with_out_of_memory}
use Rattle.session_core.proofs.Passes.{IsShort-with_out_of_memory}
use Rattle.session_core.proofs.Grows.{StandsFor-piece}
use Rattle.session_core.proofs.Flags.{flag-fed, number-fed}
use Rattle.session_core.proofs.session.Session.feed.Goals as goal

pub returns-clause-grown : goal.returns-clause-grown
returns-clause-grown c =
    λ taken es asked sent s. (
      with_out_of_memory c.feed_piece-step.result.out_of_memory sent [],
      IsShort-with_out_of_memory c.feed_piece-step.result.out_of_memory sent,
      record {
        stage =
            StandsFor-piece c.phase_at-phase.result c.args.self.now.runner c.args.self.now.startup.items c.args.self.now.frames
            c.feed_piece-step.new.frames c.args.piece.now taken es asked sent
            c.feed_piece-step.result.stage c.feed_piece-step.result.out_of_memory c.feed_piece-step.ensures.feeds
            (subst (λ (x : SessionStage). StandsFor x c.args.self.now.runner c.args.self.now.startup.items c.args.self.now.frames taken es asked
            sent) c.phase_at-phase.ensures s.stage)
            ((c.feed_piece-step.ensures.leads c.args.self.now.runner c.requires.fit).some c.args.self.now.startup.items);
        short = flag-fed c.args.self.now.short c.either-self.result c.feed_piece-step.result.out_of_memory es sent s.short (c.either-self.ensures
            ∙ ap (λ (b : Bool). c.args.self.now.short || b) c.is_some.ensures);
        number = number-fed c.args.self.now.number c.feed_piece-step.result.out_of_memory es sent s.number;
      },
    )
