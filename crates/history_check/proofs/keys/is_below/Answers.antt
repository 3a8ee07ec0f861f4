use Rattle.std.proofs.Common.{◌≡◌, refl, sym, ◌∙◌}
use Rattle.std.specs.declared.cmp.Ordering.TheVariants.{Less, Equal, Greater}
use Rattle.std.proofs.lemmas.Bool.{false≢true}
use Rattle.indexed_history.proofs.KeyLists.{below_from_less}
use Rattle.history_check.proofs.KeyLemmas.{less_from_below}
use Rattle.history_check.proofs.keys.is_below.Goals as goal

pub returns-in-Less : goal.returns-in-Less
returns-in-Less c = (λ h. below_from_less c.args.low.now c.args.high.now (sym c.cmp.ensures ∙ c.in-Less.is), λ below. refl)

pub returns-in-Equal : goal.returns-in-Equal
returns-in-Equal c = (
  λ h. absurd (false≢true h),
  λ below. absurd (let both : Less ≡ Equal = sym (less_from_below c.args.low.now c.args.high.now below) ∙ sym c.cmp.ensures ∙ c.in-Equal.is in cc),
)

pub returns-in-Greater : goal.returns-in-Greater
returns-in-Greater c = (
  λ h. absurd (false≢true h),
  λ below. absurd (let both : Less ≡ Greater = sym (less_from_below c.args.low.now c.args.high.now below) ∙ sym c.cmp.ensures ∙ c.in-Greater.is in cc),
)
