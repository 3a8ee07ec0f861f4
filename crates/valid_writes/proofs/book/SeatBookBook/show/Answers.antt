use Rattle.std.proofs.Common.{refl, sym, subst}
use Rattle.history_book.specs.Book.{Past, HasSession}
use Rattle.history_core.specs.declared.event.Event.TheVariants.{Show}
use Rattle.valid_writes.proofs.Alone.{owns_goes, owns_if}
use Rattle.valid_writes.proofs.Told.{if_ok, stage_open, adds_in_session, call_state, err_goes}
use Rattle.valid_writes.proofs.book.SeatBookBook.show.Goals as goal

pub returns-clause-ok : goal.returns-clause-ok
returns-clause-ok c =
    let is = stage_open c.self.inside.desk.stage c.self.inside.desk.session c.self.inside.desk.store.history.events
    (subst (λ (p : Past). HasSession p.state) (sym c.self.view_is) c.requires) in
    rw (← c.self.view_is) (if_ok _ _ c.show_number.result
    (λ number goes. adds_in_session c.self.inside.desk c.show_number.new.desk (λ n. Show n number) _ _ c.self.invariant is goes) c.show_number.ensures.ok)

pub returns-clause-state : goal.returns-clause-state
returns-clause-state c =
    rw (← c.self.view_is) (call_state c.self.inside.desk c.show_number.new.desk (λ number. Show c.self.inside.desk.session number) _ c.show_number.result
    (λ number. refl) (λ number writes. refl) refl c.show_number.ensures.ok c.show_number.ensures.err)

pub returns-clause-err : goal.returns-clause-err
returns-clause-err c = rw (← c.self.view_is) (err_goes c.self.inside.desk c.show_number.new.desk c.show_number.result c.show_number.ensures.err)

pub returns-clause-stays : goal.returns-clause-stays
returns-clause-stays c =
    rw (← c.self.view_is) (owns_if c.self.inside.desk c.show_number.new.desk _ c.show_number.result
    (λ a goes. owns_goes c.self.inside.desk c.show_number.new.desk _ _ _ c.self.invariant goes) c.show_number.ensures.ok c.show_number.ensures.err)
