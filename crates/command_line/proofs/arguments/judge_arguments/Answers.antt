-- The command of `clap` that is built for `judge`.
use Rattle.std.proofs.Common.{◌≡◌, refl, codes}
use Rattle.clap.specs.Words.{App, with_rule}
use Rattle.command_line.specs.Arguments.{place, bare, judge_arguments}
use Rattle.command_line.proofs.Built.{built_on}
use Rattle.command_line.proofs.arguments.judge_arguments.Goals as goal

whole : with_rule (bare (codes "judge")) (place (codes "path")) ≡ judge_arguments
unfolding judge_arguments
whole = refl

pub returns : goal.returns
returns c =
    built_on c.with_one.result _ (bare (codes "judge")) judge_arguments (λ (app : App). with_rule app (place (codes "path"))) c.bare.ensures whole
    c.with_one.ensures
