-- The words are no command.
use Rattle.std.proofs.Common.{◌≡◌, ◌∙◌, ◌∷◌, List, refl, sym, ap, map, is_some}
use Rattle.clap.specs.Words.{Text}
use Rattle.command_line.specs.Arguments.{word_of}
use Rattle.command_line.proofs.Names.{unnamed, refused}
use Rattle.command_line.proofs.reading.command_line_of.Goals as goal

pub returns-in_default : goal.returns-in_default
returns-in_default c = unnamed c.args.args.now c.requires (c.in_default.ensures.none refl)

pub returns : goal.returns
returns c =
    let strs : map (λ w. w.now) c.as_slice.result.now ≡ c.in-Some.words.now = ap (map (λ w. w.now)) c.as_slice.ensures.value ∙ c.in_ok-strs.ensures in
    refused c.in-Some.name c.args.args.now (map (λ w. w.now) c.as_slice.result.now) c.requires
    (c.in-Some.ensures.some ∙ ap (λ (words : List Text). word_of c.in-Some.name ∷ words) (sym strs))
    (c.in_ok-said.ensures.none (ap is_some c.in-None.is))
