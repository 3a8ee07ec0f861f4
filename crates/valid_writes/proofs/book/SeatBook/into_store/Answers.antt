use Rattle.valid_writes.proofs.Standing.{stands_in, stands_open_is}
use Rattle.valid_writes.proofs.book.SeatBook.into_store.Goals as goal

pub returns-clause-open : goal.returns-clause-open
returns-clause-open c =
    rw (← c.self.view_is) (λ has. stands_open_is c.self.inside.desk.store.history.events c.self.inside.desk.session c.self.inside.desk.stage has
    c.self.invariant.served.stands)

pub returns-clause-stands : goal.returns-clause-stands
returns-clause-stands c =
    rw (← c.self.view_is) (stands_in c.self.inside.desk.store.history.events c.self.inside.desk.session c.self.inside.desk.stage c.self.invariant.served.stands)
