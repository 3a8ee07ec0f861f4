use Rattle.std.proofs.Common.{refl, sym, ◌∙◌}
use Rattle.std.proofs.lemmas.Bool.{false≢true}
use Rattle.history_check.proofs.sources.has_written.Goals as goal

pub returns-in-Some : goal.returns-in-Some
returns-in-Some c =
    let last = c.requires.sound c.args.number c.in-Some._place (sym c.get.ensures ∙ c.in-Some.is) in (
      λ h. record { place = c.in-Some._place; session = last.session; value = last.value; write = last.write },
      λ written. refl,
    )

pub returns-in-None : goal.returns-in-None
returns-in-None c = (λ h. absurd (false≢true h), λ written. absurd (c.requires.whole c.args.number written (sym c.get.ensures ∙ c.in-None.is)))
