use Rattle.std.proofs.Common.{sym, subst}
use Rattle.history_book.specs.Book.{Past, IsInTransaction}
use Rattle.history_core.specs.declared.event.Event.TheVariants.{Write}
use Rattle.valid_writes.specs.declared.desk.Stage.TheVariants.{Pending}
use Rattle.valid_writes.proofs.Alone.{owns_goes, owns_on}
use Rattle.valid_writes.proofs.Told.{on_ok, stage_pending, pending_open, adds_in_session, write_state, err_goes}
use Rattle.valid_writes.proofs.book.SeatBookBook.write.Goals as goal

pub returns-clause-ok : goal.returns-clause-ok
returns-clause-ok c =
    let is = stage_pending c.self.inside.desk.stage c.self.inside.desk.session c.self.inside.desk.store.history.events
    (subst (λ (p : Past). IsInTransaction p.state) (sym c.self.view_is) c.requires.pending) in
    rw (← c.self.view_is) (on_ok _ _ c.write_cell.result
    (λ goes. adds_in_session c.self.inside.desk c.write_cell.new.desk (λ n. Write n c.args.cell c.args.value) _ Pending c.self.invariant (pending_open c.self.inside.desk.stage is) goes) c.write_cell.ensures.ok)

pub returns-clause-state : goal.returns-clause-state
returns-clause-state c =
    let is = stage_pending c.self.inside.desk.stage c.self.inside.desk.session c.self.inside.desk.store.history.events
    (subst (λ (p : Past). IsInTransaction p.state) (sym c.self.view_is) c.requires.pending) in
    rw (← c.self.view_is) (on_ok _ _ c.write_cell.result
    (λ goes. write_state c.self.inside.desk c.write_cell.new.desk c.args.cell c.args.value is goes) c.write_cell.ensures.ok)

pub returns-clause-err : goal.returns-clause-err
returns-clause-err c = rw (← c.self.view_is) (err_goes c.self.inside.desk c.write_cell.new.desk c.write_cell.result c.write_cell.ensures.err)

pub returns-clause-stays : goal.returns-clause-stays
returns-clause-stays c =
    rw (← c.self.view_is) (owns_on c.self.inside.desk c.write_cell.new.desk _ c.write_cell.result
    (owns_goes c.self.inside.desk c.write_cell.new.desk _ _ _ c.self.invariant) c.write_cell.ensures.ok c.write_cell.ensures.err)
