use Rattle.std.proofs.Common.{true, refl, sym, ◌∙◌, inl, inr}
use Rattle.std.proofs.lemmas.Bool.{false≢true}
use Rattle.cell_base.specs.declared.value.Value.TheVariants.{Flag}
use Rattle.history_check.proofs.WriteLemmas.{entry_to, entry_from}
use Rattle.history_check.proofs.keys.is_present.Goals as goal

pub returns-then-holds : goal.returns-then-holds
returns-then-holds c = (λ h. inl (entry_to c.args.initial.now c.args.cell.now (Flag true) (c.holds.ensures.0 c.if-holds.true)), λ is. refl)

pub returns : goal.returns
returns c = (
  λ h. inr (c.is_written.ensures.0 h),
  λ is. elim is [
    | inl first ↦ absurd (false≢true (sym c.if-holds.false ∙ c.holds.ensures.1 (entry_from c.args.initial.now c.args.cell.now (Flag true) first)))
    | inr more ↦ c.is_written.ensures.1 more
  ],
)
