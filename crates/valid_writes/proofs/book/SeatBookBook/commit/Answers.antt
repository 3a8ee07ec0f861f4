use Rattle.std.proofs.Common.{sym, subst}
use Rattle.history_book.specs.Book.{Past, IsInTransaction}
use Rattle.history_core.specs.declared.event.Event.TheVariants.{Commit}
use Rattle.valid_writes.specs.declared.desk.Stage.TheVariants.{InSession}
use Rattle.valid_writes.proofs.Alone.{owns_goes}
use Rattle.valid_writes.proofs.Told.{stage_pending, pending_open, adds_in_session}
use Rattle.valid_writes.proofs.book.SeatBookBook.commit.Goals as goal

pub returns-clause-adds : goal.returns-clause-adds
returns-clause-adds c =
    let is = stage_pending c.self.inside.desk.stage c.self.inside.desk.session c.self.inside.desk.store.history.events
    (subst (λ (p : Past). IsInTransaction p.state) (sym c.self.view_is) c.requires) in
    rw (← c.self.view_is) (adds_in_session c.self.inside.desk c.commit_transaction.new.desk (λ n. Commit n) _ InSession c.self.invariant (pending_open c.self.inside.desk.stage is) c.commit_transaction.ensures.adds)

pub returns-clause-stays : goal.returns-clause-stays
returns-clause-stays c =
    rw (← c.self.view_is) (owns_goes c.self.inside.desk c.commit_transaction.new.desk _ _ _ c.self.invariant c.commit_transaction.ensures.adds)
