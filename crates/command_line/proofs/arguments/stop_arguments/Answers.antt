-- The command of `clap` that is built for `stop`.
use Rattle.std.proofs.Common.{◌≡◌, refl, codes}
use Rattle.clap.specs.Words.{App, with_rule}
use Rattle.command_line.specs.Arguments.{last_place, bare, stop_arguments}
use Rattle.command_line.proofs.Built.{built_on}
use Rattle.command_line.proofs.arguments.stop_arguments.Goals as goal

whole : with_rule (bare (codes "stop")) (last_place (codes "address")) ≡ stop_arguments
unfolding stop_arguments
whole = refl

pub returns : goal.returns
returns c =
    built_on c.with_one.result _ (bare (codes "stop")) stop_arguments (λ (app : App). with_rule app (last_place (codes "address"))) c.bare.ensures whole
    c.with_one.ensures
