use Rattle.std.proofs.Common.{◌≡◌, ℕ, List, length, refl, arith, ap, sym, ◌∙◌, eq-eqb, inl, inr}
use Rattle.std.proofs.lemmas.Bool.{false≢true, eqb-true, cases_eq}
use Rattle.history_check.proofs.RowLemmas.{cell_there, place_there}
use Rattle.history_check.proofs.rows.Rows.has_cell.Goals as goal

pub returns-then-is_empty : goal.returns-then-is_empty
returns-then-is_empty c =
    let none : length c.writers_at.result.now ≡ 0 = eqb-true (length c.writers_at.result.now) 0 (sym c.is_empty.ensures ∙ c.if-is_empty.true) in
    let same = ap (λ (ns : List ℕ). length ns) c.writers_at.ensures in (
      λ h. absurd (false≢true h),
      λ has. let some = place_there c.self.inside.cells.now c.self.inside.places c.args.cell.now c.self.invariant.0 (rw (← c.self.view_is) at has) in absurd (omega arith),
    )

pub returns : goal.returns
returns c =
    let same = ap (λ (ns : List ℕ). length ns) c.writers_at.ensures in (
      λ h. elim (cases_eq (length c.writers_at.result.now) 0) [
        | inl none ↦ absurd (false≢true (sym c.if-is_empty.false ∙ c.is_empty.ensures ∙ eq-eqb (length c.writers_at.result.now) 0 none))
        | inr some ↦ rw (← c.self.view_is) (cell_there c.self.inside.cells.now c.self.inside.places c.args.cell.now c.self.invariant.0 (omega arith))
      ],
      λ has. refl,
    )
