use Rattle.std.proofs.Common.{refl, sym, subst}
use Rattle.history_book.specs.Book.{Past, IsInTransaction}
use Rattle.history_core.specs.declared.event.Event.TheVariants.{Scan}
use Rattle.valid_writes.specs.declared.desk.Stage.TheVariants.{Pending}
use Rattle.valid_writes.proofs.Alone.{owns_goes, owns_if}
use Rattle.valid_writes.proofs.Told.{if_ok, stage_pending, pending_open, adds_in_session, call_state, err_goes}
use Rattle.valid_writes.proofs.book.SeatBookBook.scan.Goals as goal

pub returns-clause-ok : goal.returns-clause-ok
returns-clause-ok c =
    let is = stage_pending c.self.inside.desk.stage c.self.inside.desk.session c.self.inside.desk.store.history.events
    (subst (λ (p : Past). IsInTransaction p.state) (sym c.self.view_is) c.requires.pending) in
    rw (← c.self.view_is) (if_ok _ _ c.scan_table.result
    (λ keys goes. adds_in_session c.self.inside.desk c.scan_table.new.desk (λ n. Scan n c.args.table keys) _ Pending c.self.invariant (pending_open c.self.inside.desk.stage is) goes)
    c.scan_table.ensures.ok)

pub returns-clause-state : goal.returns-clause-state
returns-clause-state c =
    let is = stage_pending c.self.inside.desk.stage c.self.inside.desk.session c.self.inside.desk.store.history.events
    (subst (λ (p : Past). IsInTransaction p.state) (sym c.self.view_is) c.requires.pending) in
    rw (← c.self.view_is) (call_state c.self.inside.desk c.scan_table.new.desk (λ keys. Scan c.self.inside.desk.session c.args.table keys) Pending c.scan_table.result (λ keys. refl) (λ keys writes. refl) is
    c.scan_table.ensures.ok c.scan_table.ensures.err)

pub returns-clause-err : goal.returns-clause-err
returns-clause-err c = rw (← c.self.view_is) (err_goes c.self.inside.desk c.scan_table.new.desk c.scan_table.result c.scan_table.ensures.err)

pub returns-clause-stays : goal.returns-clause-stays
returns-clause-stays c =
    rw (← c.self.view_is) (owns_if c.self.inside.desk c.scan_table.new.desk _ c.scan_table.result
    (λ a goes. owns_goes c.self.inside.desk c.scan_table.new.desk _ _ _ c.self.invariant goes) c.scan_table.ensures.ok c.scan_table.ensures.err)
