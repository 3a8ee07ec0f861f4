use Rattle.std.proofs.Common.{◌≡◌, ◌<◌, ℕ, Option, None, length, get_or, inl, inr, sym, ◌∙◌, subst}
use Rattle.std.proofs.lemmas.List.{get_or_default}
use Rattle.saturation.specs.Views.{source_of}
use Rattle.axiom_base.specs.Sights.{IsAfter}
use Rattle.axiom_rc.proofs.Reading.{notes_set}
use Rattle.axiom_rc.proofs.note.Goals as goal

pub returns : goal.returns
returns c =
    let at = c.source-at.ensures in
    let there : get_or c.args.since.now.items (source_of c.args.seen.now) None ≡ c.index.result.now =
    subst (λ (n : ℕ). get_or c.args.since.now.items n None ≡ c.index.result.now) at
    (get_or_default c.args.since.now.items c.source-at.result None c.index.result.now (subst (λ (n : ℕ). n < length c.args.since.now.items) (sym at) c.requires) ∙ sym c.index.ensures) in
    rw at (notes_set c.args.since.now.items c.args.seen.now c.earlier.result c.requires (λ number. (
      λ less. elim ((c.earlier.ensures number).0 less) [
        | inl before ↦ inl (subst (λ (o : Option ℕ). IsAfter o number) (sym there) before)
        | inr now ↦ inr (subst (λ (n : ℕ). n < number) c.number.ensures now)
      ],
      λ either. (c.earlier.ensures number).1 (elim either [
        | inl before ↦ inl (subst (λ (o : Option ℕ). IsAfter o number) there before)
        | inr now ↦ inr (subst (λ (n : ℕ). n < number) (sym c.number.ensures) now)
      ]),
    )))
