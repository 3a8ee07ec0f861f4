use Rattle.std.proofs.Common.{sym, subst}
use Rattle.history_book.specs.Book.{Past, IsIdle}
use Rattle.history_core.specs.declared.event.Event.TheVariants.{Begin}
use Rattle.valid_writes.specs.declared.desk.Stage.TheVariants.{Pending}
use Rattle.valid_writes.proofs.Alone.{owns_goes, owns_on}
use Rattle.valid_writes.proofs.Told.{on_ok, stage_idle, in_session_open, adds_in_session, begin_state, err_goes}
use Rattle.valid_writes.proofs.book.SeatBookBook.begin.Goals as goal

pub returns-clause-ok : goal.returns-clause-ok
returns-clause-ok c =
    let idle = stage_idle c.self.inside.desk.stage c.self.inside.desk.session c.self.inside.desk.store.history.events
    (subst (λ (p : Past). IsIdle p.state) (sym c.self.view_is) c.requires) in
    rw (← c.self.view_is) (on_ok _ _ c.begin_transaction.result
    (λ goes. adds_in_session c.self.inside.desk c.begin_transaction.new.desk (λ n. Begin n c.args.level) _ Pending c.self.invariant (in_session_open c.self.inside.desk.stage idle) goes) c.begin_transaction.ensures.ok)

pub returns-clause-state : goal.returns-clause-state
returns-clause-state c =
    let idle = stage_idle c.self.inside.desk.stage c.self.inside.desk.session c.self.inside.desk.store.history.events
    (subst (λ (p : Past). IsIdle p.state) (sym c.self.view_is) c.requires) in
    rw (← c.self.view_is) (on_ok _ _ c.begin_transaction.result
    (λ goes. begin_state c.self.inside.desk c.begin_transaction.new.desk c.args.level (in_session_open c.self.inside.desk.stage idle) goes) c.begin_transaction.ensures.ok)

pub returns-clause-err : goal.returns-clause-err
returns-clause-err c = rw (← c.self.view_is) (err_goes c.self.inside.desk c.begin_transaction.new.desk c.begin_transaction.result c.begin_transaction.ensures.err)

pub returns-clause-stays : goal.returns-clause-stays
returns-clause-stays c =
    rw (← c.self.view_is) (owns_on c.self.inside.desk c.begin_transaction.new.desk _ c.begin_transaction.result
    (owns_goes c.self.inside.desk c.begin_transaction.new.desk _ _ _ c.self.invariant) c.begin_transaction.ensures.ok c.begin_transaction.ensures.err)
