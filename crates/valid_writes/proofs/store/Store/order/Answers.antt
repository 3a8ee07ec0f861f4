use Rattle.valid_writes.proofs.store.Store.order.Goals as goal

pub returns : goal.returns
returns c = record {
  meets = rw (← c.self.view_is) c.order.ensures.meets;
  first = rw (← c.self.view_is) c.order.ensures.first;
  least = rw (← c.self.view_is) c.order.ensures.least;
}
