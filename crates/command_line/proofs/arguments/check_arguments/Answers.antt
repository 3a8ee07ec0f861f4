-- The command of `clap` that is built for `check`.
use Rattle.std.proofs.Common.{◌≡◌, ◌∙◌, ap, refl, codes}
use Rattle.clap.specs.Words.{App, app_of, with_rule}
use Rattle.command_line.specs.Arguments.{place, flag, bare, check_arguments}
use Rattle.command_line.proofs.Built.{built_on}
use Rattle.command_line.proofs.arguments.check_arguments.Goals as goal

abbrev placed : App → App
placed app = with_rule app (place (codes "path"))

whole : with_rule (placed (bare (codes "check"))) (flag (codes "wide")) ≡ check_arguments
unfolding check_arguments
whole = refl

pub returns : goal.returns
returns c =
    let one : app_of c.in_ok-placed.placed ≡ placed (bare (codes "check")) = c.in_ok-placed.ensures ∙ ap placed c.bare.ensures in
    built_on c.with_one-2.result _ (placed (bare (codes "check"))) check_arguments (λ (app : App). with_rule app (flag (codes "wide"))) one whole
    c.with_one-2.ensures
