use Rattle.typing_rules.proofs.Sound.{flag_sound}
use Rattle.typing_rules.proofs.law.flag_is_sound.Goals as goal

pub returns : goal.returns
returns c = flag_sound
