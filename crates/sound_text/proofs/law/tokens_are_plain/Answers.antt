use Rattle.sound_text.proofs.Plain.{tokens_plain}
use Rattle.sound_text.proofs.law.tokens_are_plain.Goals as goal

pub returns : goal.returns
returns c = tokens_plain
