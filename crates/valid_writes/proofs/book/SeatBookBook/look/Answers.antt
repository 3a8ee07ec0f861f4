use Rattle.std.proofs.Common.{sym, subst}
use Rattle.history_book.specs.Book.{Past, HasSession}
use Rattle.valid_writes.proofs.Alone.{owns_goes, owns_if}
use Rattle.valid_writes.proofs.Told.{if_ok, stage_open, looks_answers, looks_state, err_goes}
use Rattle.valid_writes.proofs.book.SeatBookBook.look.Goals as goal

pub returns-clause-ok : goal.returns-clause-ok
returns-clause-ok c =
    let is = stage_open c.self.inside.desk.stage c.self.inside.desk.session c.self.inside.desk.store.history.events
    (subst (λ (p : Past). HasSession p.state) (sym c.self.view_is) c.requires.open) in
    rw (← c.self.view_is) (if_ok _ _ c.look_at_tables.result
    (λ tables looks. looks_answers c.self.inside.desk c.look_at_tables.new.desk c.args.known tables c.self.invariant is looks) c.look_at_tables.ensures.ok)

pub returns-clause-state : goal.returns-clause-state
returns-clause-state c =
    rw (← c.self.view_is) (looks_state c.self.inside.desk c.look_at_tables.new.desk c.args.known c.look_at_tables.result c.look_at_tables.ensures.ok c.look_at_tables.ensures.err)

pub returns-clause-err : goal.returns-clause-err
returns-clause-err c = rw (← c.self.view_is) (err_goes c.self.inside.desk c.look_at_tables.new.desk c.look_at_tables.result c.look_at_tables.ensures.err)

pub returns-clause-stays : goal.returns-clause-stays
returns-clause-stays c =
    rw (← c.self.view_is) (owns_if c.self.inside.desk c.look_at_tables.new.desk _ c.look_at_tables.result
    (λ tables looks. owns_goes c.self.inside.desk c.look_at_tables.new.desk _ _ _ c.self.invariant looks.goes) c.look_at_tables.ensures.ok c.look_at_tables.ensures.err)
