use Rattle.graph_base.specs.Chain.{Passes}
use Rattle.graph_base.proofs.Chains.{chained_one, chained_on, chained_least}
use Rattle.graph_base.proofs.laws.chain_is_least.Goals as goal

pub returns : goal.returns
returns c = record {
  holds = λ test. chained_one (Passes test);
  transitive = λ test. chained_on (Passes test);
  least = λ test wider. chained_least (Passes test) (Passes wider);
}
