use Rattle.session_core.proofs.driving.drive.Goals as goal

pub loop-preserved : goal.loop-preserved
loop-preserved g c = record {
  ran = λ level before many ran. c.turn.ensures.ran level before many (c.loop.invariant.ran level before many ran);
  sits = c.turn.ensures.sits;
  last = λ last. c.turn.ensures.last (c.loop.invariant.last last);
  legal = λ legal. c.turn.ensures.legal (c.loop.invariant.legal legal);
  stays = g.met.B.Book.stays_trans _ _ _ c.loop.invariant.stays c.turn.ensures.stays;
}

pub returns-clause-ran : goal.returns-clause-ran
returns-clause-ran g c = λ level before many ran.
    c.turn.ensures.ran level before many (c.loop.invariant.ran level before many ran)
