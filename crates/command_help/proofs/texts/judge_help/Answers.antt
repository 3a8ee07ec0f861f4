-- The text is the one of the definition.
use Rattle.std.proofs.Common.{refl}
use Rattle.command_help.specs.Texts.{judge_help}
use Rattle.command_help.proofs.texts.judge_help.Goals as goal

pub returns : goal.returns
unfolding judge_help
returns c = refl
