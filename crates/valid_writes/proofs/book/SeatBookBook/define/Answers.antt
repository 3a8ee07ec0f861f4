use Rattle.std.proofs.Common.{sym, subst}
use Rattle.history_book.specs.Book.{Past, HasSession}
use Rattle.valid_writes.proofs.Alone.{owns_answers, owns_if}
use Rattle.valid_writes.proofs.Told.{if_ok, stage_open, defines_answers, defines_state, err_goes}
use Rattle.valid_writes.proofs.book.SeatBookBook.define.Goals as goal

pub returns-clause-ok : goal.returns-clause-ok
returns-clause-ok c =
    let is = stage_open c.self.inside.desk.stage c.self.inside.desk.session c.self.inside.desk.store.history.events
    (subst (λ (p : Past). HasSession p.state) (sym c.self.view_is) c.requires.open) in
    rw (← c.self.view_is) (if_ok _ _ c.define_table.result
    (λ answer defines. defines_answers c.self.inside.desk c.define_table.new.desk c.args.table.now answer c.self.invariant is defines) c.define_table.ensures.ok)

pub returns-clause-state : goal.returns-clause-state
returns-clause-state c =
    rw (← c.self.view_is) (defines_state c.self.inside.desk c.define_table.new.desk c.args.table.now c.define_table.result c.define_table.ensures.ok c.define_table.ensures.err)

pub returns-clause-err : goal.returns-clause-err
returns-clause-err c = rw (← c.self.view_is) (err_goes c.self.inside.desk c.define_table.new.desk c.define_table.result c.define_table.ensures.err)

pub returns-clause-stays : goal.returns-clause-stays
returns-clause-stays c =
    rw (← c.self.view_is) (owns_if c.self.inside.desk c.define_table.new.desk _ c.define_table.result
    (λ answer answers. owns_answers c.self.inside.desk c.define_table.new.desk c.args.table.now answer c.self.invariant answers) c.define_table.ensures.ok c.define_table.ensures.err)
