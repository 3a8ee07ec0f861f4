use Rattle.seat_samples.proofs.seats.may_go_on.Goals as goal

pub returns : goal.returns
returns c = λ stands. record {
  open_is = c.stands.ensures.open_is stands;
  pending = c.has_pending.ensures.0 c.if-not-has_pending.false;
  table = c.stands.ensures.table stands;
}
