use Rattle.std.proofs.Common.{sym, ◌∙◌}
use Rattle.std.proofs.lemmas.Bool.{false≢true}
use Rattle.seat_samples.proofs.seats.may_begin.Goals as goal

pub returns : goal.returns
returns c = λ stands. record {
  open_is = c.stands.ensures.open_is stands;
  free = λ pending. false≢true (sym c.if-has_pending.false ∙ c.has_pending.ensures.1 pending);
  table = c.stands.ensures.table stands;
}
