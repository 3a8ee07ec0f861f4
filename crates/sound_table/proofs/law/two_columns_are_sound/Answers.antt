use Rattle.sound_table.proofs.Example.{sound}
use Rattle.sound_table.proofs.law.two_columns_are_sound.Goals as goal

pub returns : goal.returns
returns c = sound
