-- The text is the one of the definition.
use Rattle.std.proofs.Common.{refl}
use Rattle.command_help.specs.Texts.{serve_help}
use Rattle.command_help.proofs.texts.serve_help.Goals as goal

pub returns : goal.returns
unfolding serve_help
returns c = refl
