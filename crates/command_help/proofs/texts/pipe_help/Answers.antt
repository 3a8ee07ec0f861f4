-- The text is the one of the definition.
use Rattle.std.proofs.Common.{refl}
use Rattle.command_help.specs.Texts.{pipe_help}
use Rattle.command_help.proofs.texts.pipe_help.Goals as goal

pub returns : goal.returns
unfolding pipe_help
returns c = refl
