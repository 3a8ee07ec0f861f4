use Rattle.history_core.proofs.Prefixes.{legal_consistent}
use Rattle.history_core.proofs.Offers.{some_permitted}
use Rattle.history_core.proofs.Taken.{legal_take}
use Rattle.history_core.proofs.laws.legal_laws.Goals as goal

pub returns : goal.returns
returns c = record {
  formed = λ initial events legal. legal.formed;
  consistent = legal_consistent;
  prefixes = legal_take;
  permitted = λ initial events session cell legal pending. some_permitted initial events session cell legal pending;
}
