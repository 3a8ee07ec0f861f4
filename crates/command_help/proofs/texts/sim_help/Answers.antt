-- The text is the one of the definition.
use Rattle.std.proofs.Common.{refl}
use Rattle.command_help.specs.Texts.{sim_help}
use Rattle.command_help.proofs.texts.sim_help.Goals as goal

pub returns : goal.returns
unfolding sim_help
returns c = refl
