-- The text is the one of the definition.
use Rattle.std.proofs.Common.{refl}
use Rattle.command_help.specs.Texts.{version_line}
use Rattle.command_help.proofs.texts.version_text.Goals as goal

pub returns : goal.returns
unfolding version_line
returns c = refl
