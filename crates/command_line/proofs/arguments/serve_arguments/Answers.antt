-- The command of `clap` that is built for `serve`.
use Rattle.std.proofs.Common.{◌≡◌, ◌∙◌, ap, refl, codes}
use Rattle.clap.specs.Words.{App, app_of, with_rule}
use Rattle.command_line.specs.Arguments.{flag, text_option, bare, serve_arguments}
use Rattle.command_line.proofs.Built.{built_on}
use Rattle.command_line.proofs.arguments.serve_arguments.Goals as goal

abbrev four : App → App
four app =
    with_rule (with_rule (with_rule (with_rule app (text_option (codes "level"))) (text_option (codes "seed"))) (text_option (codes "listen")))
    (text_option (codes "workers"))

abbrev two : App → App
two app = with_rule (with_rule app (text_option (codes "accept"))) (text_option (codes "log"))

abbrev one : App → App
one app = with_rule app (text_option (codes "setup"))

whole : with_rule (one (two (four (bare (codes "serve"))))) (flag (codes "quiet")) ≡ serve_arguments
unfolding serve_arguments
whole = refl

pub returns : goal.returns
returns c =
    let first : app_of c.in_ok-first.first ≡ four (bare (codes "serve")) = c.in_ok-first.ensures ∙ ap four c.bare.ensures in
    let further : app_of c.in_ok-further.further ≡ two (four (bare (codes "serve"))) = c.in_ok-further.ensures ∙ ap two first in
    let valued : app_of c.in_ok-valued.valued ≡ one (two (four (bare (codes "serve")))) = c.in_ok-valued.ensures ∙ ap one further in
    built_on c.with_one-2.result _ (one (two (four (bare (codes "serve"))))) serve_arguments (λ (app : App). with_rule app (flag (codes "quiet")))
    valued whole c.with_one-2.ensures
