use Rattle.std.proofs.Common.{◌≡◌, ℕ, List, length, refl, arith, ap, sym, ◌∙◌, eq-eqb, inl, inr}
use Rattle.std.proofs.lemmas.Bool.{false≢true, eqb-true, cases_eq}
use Rattle.history_check.proofs.Committed.{later_writer, no_later}
use Rattle.history_check.proofs.sources.has_later_writer.Goals as goal

pub returns-then-is_empty : goal.returns-then-is_empty
returns-then-is_empty c =
    let none : length c.as_slice.result.now ≡ 0 = eqb-true (length c.as_slice.result.now) 0 (sym c.is_empty.ensures ∙ c.if-is_empty.true) in
    let same = ap (λ (ns : List ℕ). length ns) c.as_slice.ensures in (
      λ h. absurd (false≢true h),
      λ has. let some = no_later c.args.before.now c.args.cell.now c.args.note.now c.requires has in absurd (omega arith),
    )

pub returns : goal.returns
returns c =
    let same = ap (λ (ns : List ℕ). length ns) c.as_slice.ensures in (
      λ h. elim (cases_eq (length c.as_slice.result.now) 0) [
        | inl none ↦ absurd (false≢true (sym c.if-is_empty.false ∙ c.is_empty.ensures ∙ eq-eqb (length c.as_slice.result.now) 0 none))
        | inr some ↦ later_writer c.args.before.now c.args.cell.now c.args.note.now c.requires (omega arith)
      ],
      λ has. refl,
    )
