use Rattle.std.proofs.Common.{◌≡◌, sym, ◌∙◌, ap, refl}
use Rattle.history_log.specs.Cut.{cut_at}
use Rattle.history_log.proofs.Cuts.{at_rest, cut_last, cut_first}
use Rattle.history_log.proofs.parts.Parts.next.Goals as goal

pub returns-in-Some-clause-some : goal.returns-in-Some-clause-some
returns-in-Some-clause-some c =
    let start : c.args.self.now ≡ cut_at c.self.inside.separator c.in_ok-text.text.now = at_rest _ _ _ _ c.in_ok-text.was (sym c.self.view_is) in
    start ∙ ap (cut_at c.self.inside.separator) c.in-Some.ensures.some ∙ cut_first _ _ _ c.in-Some.ensures.first

pub returns-in-None-clause-some : goal.returns-in-None-clause-some
returns-in-None-clause-some c =
    let start : c.args.self.now ≡ cut_at c.self.inside.separator c.in_ok-text.text.now = at_rest _ _ _ _ c.in_ok-text.was (sym c.self.view_is) in
    start ∙ cut_last _ _ (c.in-None.ensures.none refl)
