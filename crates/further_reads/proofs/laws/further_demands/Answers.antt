use Rattle.history_core.proofs.Prefixes.{sound_of}
use Rattle.further_reads.proofs.NewDemands.{demands_with, with_demands}
use Rattle.further_reads.proofs.laws.further_demands.Goals as goal

pub returns : goal.returns
returns c = λ initial events session reader level cell source count word value formed pending runs writes first second. (
  demands_with level events (sound_of initial events formed) session reader cell source count word value pending runs first second,
  with_demands level events session reader cell source count word value pending runs first second,
)
