use Rattle.sound_text.proofs.Plain.{built_sound}
use Rattle.sound_text.proofs.law.built_is_sound.Goals as goal

pub returns : goal.returns
returns c = built_sound
