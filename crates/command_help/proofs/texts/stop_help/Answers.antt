-- The text is the one of the definition.
use Rattle.std.proofs.Common.{refl}
use Rattle.command_help.specs.Texts.{stop_help}
use Rattle.command_help.proofs.texts.stop_help.Goals as goal

pub returns : goal.returns
unfolding stop_help
returns c = refl
