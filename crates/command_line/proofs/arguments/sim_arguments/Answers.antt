-- The command of `clap` that is built for `sim`.
use Rattle.std.proofs.Common.{◌≡◌, ◌∙◌, ap, refl, codes}
use Rattle.clap.specs.Words.{App, app_of, with_rule}
use Rattle.command_line.specs.Arguments.{place, text_option, bare, sim_arguments}
use Rattle.command_line.proofs.Built.{built_on}
use Rattle.command_line.proofs.arguments.sim_arguments.Goals as goal

abbrev placed : App → App
placed app =
    with_rule (with_rule (with_rule (with_rule app (place (codes "level"))) (place (codes "seed"))) (place (codes "sessions"))) (place (codes "queries"))

whole : with_rule (placed (bare (codes "sim"))) (text_option (codes "log")) ≡ sim_arguments
unfolding sim_arguments
whole = refl

pub returns : goal.returns
returns c =
    let four : app_of c.in_ok-placed.placed ≡ placed (bare (codes "sim")) = c.in_ok-placed.ensures ∙ ap placed c.bare.ensures in
    built_on c.with_one.result _ (placed (bare (codes "sim"))) sim_arguments (λ (app : App). with_rule app (text_option (codes "log"))) four whole
    c.with_one.ensures
