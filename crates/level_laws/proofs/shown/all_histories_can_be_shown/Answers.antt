use Rattle.level_laws.proofs.Offering.{some_offer}
use Rattle.level_laws.proofs.Showing.{show_other, show_read, show_all}
use Rattle.level_laws.proofs.shown.all_histories_can_be_shown.Goals as goal

pub returns : goal.returns
returns c = record {
  others = show_other;
  reads = λ initial shown events session cell source count word value offer legal alike formed consistent is.
      let picks = show_read initial shown events session cell source count word value offer legal alike formed consistent is in
      (picks.word, picks.below, picks.legal);
  offer = some_offer;
  whole = show_all;
}
