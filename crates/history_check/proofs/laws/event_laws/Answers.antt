use Rattle.history_check.proofs.EventLemmas.{right_unbroken, one_breach, right_each}
use Rattle.history_check.proofs.laws.event_laws.Goals as goal

pub returns : goal.returns
returns c = record {
  unbroken = right_unbroken;
  one = one_breach;
  follows = λ initial events k event right is. right_each initial events right k event is;
  formed = λ initial events right fits k event is. record { follows = right_each initial events right k event is; fits = fits k event is };
}
