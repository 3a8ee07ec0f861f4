use Rattle.history_core.specs.declared.event.Event.TheVariants.{Open}
use Rattle.valid_writes.specs.declared.desk.Stage.TheVariants.{InSession}
use Rattle.valid_writes.proofs.Alone.{owns_goes, owns_if}
use Rattle.valid_writes.proofs.Told.{if_ok, adds_goes, err_goes}
use Rattle.valid_writes.proofs.book.SeatBookBook.open.Goals as goal

pub returns-clause-ok : goal.returns-clause-ok
returns-clause-ok c =
    rw (← c.self.view_is) (if_ok _ _ c.open_session.result (λ s goes. adds_goes c.self.inside.desk c.open_session.new.desk (Open s) s InSession c.self.invariant goes) c.open_session.ensures.ok)

pub returns-clause-err : goal.returns-clause-err
returns-clause-err c = rw (← c.self.view_is) (err_goes c.self.inside.desk c.open_session.new.desk c.open_session.result c.open_session.ensures.err)

pub returns-clause-stays : goal.returns-clause-stays
returns-clause-stays c =
    rw (← c.self.view_is) (owns_if c.self.inside.desk c.open_session.new.desk _ c.open_session.result
    (λ a goes. owns_goes c.self.inside.desk c.open_session.new.desk _ _ _ c.self.invariant goes) c.open_session.ensures.ok c.open_session.ensures.err)
