use Rattle.std.proofs.Common.{◌+◌, refl, ◌∙◌}
use Rattle.session_hall.proofs.Going.{around_gone, goes_alone, goes_then, legal_at}
use Rattle.session_hall.proofs.Turning.{alone_same}
use Rattle.session_hall.proofs.asking.leave.Goals as goal

pub loop-init : goal.loop-init
loop-init c = record {
  attending = c.requires.attending;
  unsent = c.requires.unsent;
  goes = λ history is. (
    0,
    goes_alone history c.args.store.now c.args.seat.now c.args.seat.now is
        (legal_at c.args.store.now c.args.seat.now history c.requires.attending is) (alone_same c.args.seat.now),
  );
  end = refl;
}

pub loop-preserved : goal.loop-preserved
loop-preserved c =
    let (here, is, legal, attending) = c.loop.invariant.attending in
    let (many, went) = c.ask_next.ensures.goes here is in
    record {
      attending = around_gone c.loop.store c.loop.seat here many c.ask_next.new.store c.ask_next.new.seat attending went;
      unsent = c.ask_next.ensures.unsent;
      goes = λ history at_first.
          let (before, first) = c.loop.invariant.goes history at_first in
          let (next, second) = c.ask_next.ensures.goes first.now first.store in
          (before + next, goes_then history c.args.seat.now c.loop.seat c.ask_next.new.seat before next c.loop.store c.ask_next.new.store first second);
      end = c.ask_next.ensures.end ∙ c.loop.invariant.end;
    }

pub returns-clause-goes : goal.returns-clause-goes
returns-clause-goes c = λ history at_first.
    let (before, first) = c.loop.invariant.goes history at_first in
    let (next, second) = c.ask_next.ensures.goes first.now first.store in
    (before + next, goes_then history c.args.seat.now c.loop.seat c.ask_next.new.seat before next c.loop.store c.ask_next.new.store first second)
