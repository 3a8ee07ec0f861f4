-- The text is the one of the definition.
use Rattle.std.proofs.Common.{refl}
use Rattle.command_help.specs.Texts.{check_help}
use Rattle.command_help.proofs.texts.check_help.Goals as goal

pub returns : goal.returns
unfolding check_help
returns c = refl
