use Rattle.std.proofs.Common.{arith}
use Rattle.session_core.proofs.driving.run_on.Goals as goal

pub loop-preserved : goal.loop-preserved
loop-preserved g c = record {
  ran = λ level before seen many ran.
      c.step_on.ensures.ran level before seen many (c.loop.invariant.ran level before seen many ran);
  sits = c.step_on.ensures.sits;
  work = omega (arith, c.loop.invariant.work, c.step_on.ensures.work);
  message = omega (arith, c.loop.invariant.message, c.step_on.ensures.message);
  last = λ last. c.step_on.ensures.last (c.loop.invariant.last last);
  legal = λ legal. c.step_on.ensures.legal (c.loop.invariant.legal legal);
  stays = g.met.B.Book.stays_trans _ _ _ c.loop.invariant.stays c.step_on.ensures.stays;
}

pub returns-clause-ran : goal.returns-clause-ran
returns-clause-ran g c = λ level before seen many ran.
    c.step_on.ensures.ran level before seen many (c.loop.invariant.ran level before seen many ran)
