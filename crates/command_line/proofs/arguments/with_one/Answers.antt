-- The command of `clap` with one argument more.
use Rattle.std.proofs.Common.{◌∙◌, ap}
use Rattle.clap.specs.Words.{Rule, app_of, with_rule}
use Rattle.command_line.proofs.arguments.with_one.Goals as goal

pub returns-in-Ok : goal.returns-in-Ok
returns-in-Ok c =
    c.in-Ok.ensures.shape c.argument.ensures.local ∙ ap (λ (rule : Rule). with_rule (app_of c.args.command) rule) c.argument.ensures.rule
