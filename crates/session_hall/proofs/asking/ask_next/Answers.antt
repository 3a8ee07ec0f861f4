use Rattle.session_hall.proofs.Going.{goes_alone, legal_at}
use Rattle.session_hall.proofs.Turning.{alone_same}
use Rattle.session_hall.proofs.asking.ask_next.Goals as goal

pub returns-then-not-wants_call-clause-goes : goal.returns-then-not-wants_call-clause-goes
returns-then-not-wants_call-clause-goes c = λ history is. (
  0,
  goes_alone history c.args.store.now c.args.seat.now c.args.seat.now is (legal_at c.args.store.now c.args.seat.now history c.requires.attending is)
      (alone_same c.args.seat.now),
)

pub returns-clause-goes : goal.returns-clause-goes
returns-clause-goes c = λ history is. (1, c.ask.ensures.goes history is)
