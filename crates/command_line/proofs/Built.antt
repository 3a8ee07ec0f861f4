-- Commands of `clap` that are built on others.
use Rattle.std.proofs.Common.{◌≡◌, ◌∙◌, ap}
use Rattle.std.specs.Prelude.{Result, Ok, Err, IfOk}
use Rattle.clap.specs.Words.{App, app_of}
use Rattle.clap.specs.declared.builder.command.Command.{Command}
use Rattle.cell_base.specs.declared.memory.Memory.{Memory}

-- what is built on a command of this shape, where what is built on that shape is the whole
pub built_on : (result : Result Command Memory) (before after whole : App) (more : App → App) → before ≡ after → more after ≡ whole →
    IfOk result (λ command. app_of command ≡ more before) → IfOk result (λ command. app_of command ≡ whole)
built_on (Ok command) before after whole more same all is = is ∙ ap more same ∙ all
built_on (Err memory) before after whole more same all is = tt
