use Rattle.program_laws.proofs.Visiting.{are_complete}
use Rattle.program_laws.proofs.completeness.visits_are_complete.Goals as goal

pub returns : goal.returns
returns g c = λ level past words visits left left_words are. are_complete g.W.Words.gives level past words visits left left_words are
