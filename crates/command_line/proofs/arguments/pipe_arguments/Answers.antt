-- The command of `clap` that is built for `pipe`.
use Rattle.std.proofs.Common.{◌≡◌, refl, codes}
use Rattle.clap.specs.Words.{App, with_rule}
use Rattle.command_line.specs.Arguments.{place, bare, pipe_arguments}
use Rattle.command_line.proofs.Built.{built_on}
use Rattle.command_line.proofs.arguments.pipe_arguments.Goals as goal

whole : with_rule (with_rule (bare (codes "pipe")) (place (codes "level"))) (place (codes "words")) ≡ pipe_arguments
unfolding pipe_arguments
whole = refl

pub returns : goal.returns
returns c =
    built_on c.with_two.result _ (bare (codes "pipe")) pipe_arguments
    (λ (app : App). with_rule (with_rule app (place (codes "level"))) (place (codes "words"))) c.bare.ensures whole c.with_two.ensures
