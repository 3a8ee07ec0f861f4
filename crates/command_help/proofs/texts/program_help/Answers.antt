-- The text is the one of the definition.
use Rattle.std.proofs.Common.{refl}
use Rattle.command_help.specs.Texts.{program_help}
use Rattle.command_help.proofs.texts.program_help.Goals as goal

pub returns : goal.returns
unfolding program_help
returns c = refl
