use Rattle.sound_table.proofs.WellFormed.{sound_well}
use Rattle.sound_table.proofs.law.sound_is_well_formed.Goals as goal

pub returns : goal.returns
returns c = sound_well
