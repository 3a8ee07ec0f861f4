-- The command of `clap` with two arguments more.
use Rattle.std.proofs.Common.{refl}
use Rattle.clap.specs.Words.{App, with_rule}
use Rattle.command_line.specs.Rules.{rule_for}
use Rattle.command_line.proofs.Built.{built_on}
use Rattle.command_line.proofs.arguments.with_two.Goals as goal

pub returns : goal.returns
returns c =
    built_on c.with_one-2.result _ _ _ (λ (app : App). with_rule app (rule_for c.args.kind c.args.second.now)) c.in_ok-more.ensures refl
    c.with_one-2.ensures
