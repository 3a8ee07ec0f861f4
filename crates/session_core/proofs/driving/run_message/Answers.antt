use Rattle.std.proofs.Common.{arith}
use Rattle.session_core.proofs.driving.run_message.Goals as goal

pub loop-preserved : goal.loop-preserved
loop-preserved g c = record {
  ran = λ level before many ran. c.step_message.ensures.ran level before many (c.loop.invariant.ran level before many ran);
  sits = c.step_message.ensures.sits;
  work = omega (arith, c.loop.invariant.work, c.step_message.ensures.work);
  last = λ last. c.step_message.ensures.last (c.loop.invariant.last last);
  legal = λ legal. c.step_message.ensures.legal (c.loop.invariant.legal legal);
  stays = g.met.B.Book.stays_trans _ _ _ c.loop.invariant.stays c.step_message.ensures.stays;
}

pub returns-clause-ran : goal.returns-clause-ran
returns-clause-ran g c = λ level before many ran.
    c.step_message.ensures.ran level before many (c.loop.invariant.ran level before many ran)
