use Rattle.block_machine.specs.Calls.{call_of, call_for}
use Rattle.block_machine.specs.Calls as calls
use Rattle.session_core.proofs.calling.answer_of.Goals as goal

pub returns-in-Define-clause-answered : goal.returns-in-Define-clause-answered
returns-in-Define-clause-answered g c =
    let (e, plays) = c.define.ensures.plays in
    record {
      call = calls.Define c.table.result.now;
      event = e;
      wanted_is = c.table.ensures.table;
      fits = c.define.ensures.fits;
      plays = plays;
      state = c.define.ensures.state;
    }

pub returns-in-Cells-clause-answered : goal.returns-in-Cells-clause-answered
returns-in-Cells-clause-answered g c =
    let (e, plays) = c.ask.ensures.plays in
    record {
      call = call_for c.demanded.result.now;
      event = e;
      wanted_is = c.demanded.ensures.wanted;
      fits = c.ask.ensures.fits;
      plays = plays;
      state = c.ask.ensures.state;
    }

pub returns-in-Book-clause-answered : goal.returns-in-Book-clause-answered
returns-in-Book-clause-answered g c =
    let (e, plays) = c.call.ensures.plays in
    record {
      call = call_of c.in-Book.c;
      event = e;
      wanted_is = c.in-Book.ensures.want;
      fits = c.call.ensures.fits;
      plays = plays;
      state = c.call.ensures.state;
    }
