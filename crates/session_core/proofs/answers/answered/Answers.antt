-- What is left to show of `answered`.
use Rattle.std.proofs.Common.{sym, subst, arith}
use Rattle.session_core.specs.declared.stage.SessionStage.{SessionStage}
use Rattle.session_core.specs.Stands.{HasReply}
use Rattle.session_core.specs.Steps.{Advances}
use Rattle.session_core.proofs.answers.answered.Goals as goal

pub returns-in-Running-clause-goes : goal.returns-in-Running-clause-goes
returns-in-Running-clause-goes c =
    subst (λ (x : SessionStage). Advances x c.args.runner.now c.args.answer c.answer_message.result.stage c.answer_message.new.runner
    c.answer_message.result.out_of_memory c.args.startup.now.items)
    (sym c.in-Running.is) (c.answer_message.ensures.goes c.args.startup.now.items)

pub returns-in-Running-clause-some : goal.returns-in-Running-clause-some
returns-in-Running-clause-some c =
    subst (λ (x : SessionStage). HasReply x c.answer_message.new.runner c.args.startup.now.items) (sym c.answer_message.ensures.stage)
    (c.answer_message.ensures.some c.args.startup.now.items)

pub returns-in_default : goal.returns-in_default
returns-in_default c =
    let own = c.answer_own.ensures in
    record {
      goes = own.goes c.args.runner.now;
      owed = λ asked. own.owed asked c.args.runner.now;
      outer = own.outer;
      lacks = own.lacks;
      work = omega (arith, own.work);
      message = λ running. absurd (c.in_default.not-Running running);
      left = λ running. absurd (c.in_default.not-Running running);
      known = own.known c.args.runner.now;
      fit = c.requires.fit;
      under = own.under c.args.runner.now;
      phase = own.phase;
      some = own.some c.args.runner.now;
    }
