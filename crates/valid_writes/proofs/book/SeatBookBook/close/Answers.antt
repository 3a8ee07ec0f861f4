use Rattle.std.proofs.Common.{sym, subst}
use Rattle.history_book.specs.Book.{Past, IsIdle}
use Rattle.history_core.specs.declared.event.Event.TheVariants.{Close}
use Rattle.valid_writes.specs.declared.desk.Stage.TheVariants.{NoSession}
use Rattle.valid_writes.proofs.Alone.{owns_goes}
use Rattle.valid_writes.proofs.Told.{stage_idle, in_session_open, adds_in_session}
use Rattle.valid_writes.proofs.book.SeatBookBook.close.Goals as goal

pub returns-clause-adds : goal.returns-clause-adds
returns-clause-adds c =
    let idle = stage_idle c.self.inside.desk.stage c.self.inside.desk.session c.self.inside.desk.store.history.events
    (subst (λ (p : Past). IsIdle p.state) (sym c.self.view_is) c.requires) in
    rw (← c.self.view_is) (adds_in_session c.self.inside.desk c.close_session.new.desk (λ n. Close n) _ NoSession c.self.invariant (in_session_open c.self.inside.desk.stage idle) c.close_session.ensures.adds)

pub returns-clause-stays : goal.returns-clause-stays
returns-clause-stays c =
    rw (← c.self.view_is) (owns_goes c.self.inside.desk c.close_session.new.desk _ _ _ c.self.invariant c.close_session.ensures.adds)
