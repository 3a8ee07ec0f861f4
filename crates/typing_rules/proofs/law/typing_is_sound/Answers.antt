use Rattle.typing_rules.proofs.Sound.{typing_sound}
use Rattle.typing_rules.proofs.law.typing_is_sound.Goals as goal

pub returns : goal.returns
returns c = typing_sound
