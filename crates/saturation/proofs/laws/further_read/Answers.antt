use Rattle.history_core.proofs.Prefixes.{sound_of}
use Rattle.saturation.proofs.After.{forced_after, forced_before}
use Rattle.saturation.proofs.laws.further_read.Goals as goal

pub returns : goal.returns
returns c = λ initial events session reader cell source count word value formed pending writes first second. (
  forced_before events (sound_of initial events formed) session reader cell source count word value pending writes first second,
  forced_after events session reader cell source count word value pending first second,
)
