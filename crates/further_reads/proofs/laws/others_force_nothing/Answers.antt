use Rattle.history_core.proofs.Prefixes.{sound_of}
use Rattle.saturation.proofs.After.{precedes_kept}
use Rattle.further_reads.proofs.Still.{forced_kept, others_force, others_precede}
use Rattle.further_reads.proofs.laws.others_force_nothing.Goals as goal

pub returns : goal.returns
returns c = record {
  forced = λ initial events event formed follows nothing a b. (
    others_force initial events event (sound_of initial events formed) follows nothing a b,
    forced_kept events event a b,
  );
  precedes = λ initial events event formed follows nothing a b. (others_precede events event nothing a b, precedes_kept events event a b);
}
