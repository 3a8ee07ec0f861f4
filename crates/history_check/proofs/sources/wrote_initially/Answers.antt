use Rattle.std.proofs.Common.{sym, ◌∙◌, inl, inr}
use Rattle.std.proofs.lemmas.Bool.{false≢true}
use Rattle.history_check.proofs.WriteLemmas.{entry_to, entry_from, absent_to, absent_from}
use Rattle.history_check.proofs.sources.wrote_initially.Goals as goal

pub returns-then-has_cell : goal.returns-then-has_cell
returns-then-has_cell c = (
  λ h. inl (entry_to c.args.initial.now c.args.cell.now c.args.value.now (c.holds.ensures.0 h)),
  λ writes. elim writes [
    | inl member ↦ c.holds.ensures.1 (entry_from c.args.initial.now c.args.cell.now c.args.value.now member)
    | inr none ↦ absurd (absent_from c.args.initial.now c.args.cell.now none.0 (c.has_cell.ensures.0 c.if-has_cell.true))
  ],
)

pub returns : goal.returns
returns c =
    let absent = absent_to c.args.initial.now c.args.cell.now (λ has. false≢true (sym c.if-has_cell.false ∙ c.has_cell.ensures.1 has)) in (
      λ h. inr (absent, c.is_absent_value.ensures.0 h),
      λ writes. elim writes [
        | inl member ↦ absurd (absent c.args.value.now member)
        | inr none ↦ c.is_absent_value.ensures.1 none.1
      ],
    )
