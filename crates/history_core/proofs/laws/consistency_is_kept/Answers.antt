use Rattle.history_core.proofs.Prefixes.{sound_of, step_plain}
use Rattle.history_core.proofs.laws.consistency_is_kept.Goals as goal

pub returns : goal.returns
returns c = λ initial events event formed may plain consistent.
    step_plain initial events event (sound_of initial events formed) may.follows plain consistent
