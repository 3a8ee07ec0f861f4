use Rattle.std.proofs.Common.{◌≡◌, Some, None, refl, sym, ◌∙◌}
use Rattle.std.proofs.lemmas.Bool.{false≢true}
use Rattle.history_check.proofs.shape.has_pending.Goals as goal

pub returns-in-Some : goal.returns-in-Some
returns-in-Some c = (λ h. (c.in-Some._number, (c.pending_in.ensures c.in-Some._number).0 c.in-Some.is), λ has. refl)

pub returns-in-None : goal.returns-in-None
returns-in-None c = (
  λ h. absurd (false≢true h),
  λ has. absurd (let both : None ≡ Some has.0 = sym c.in-None.is ∙ (c.pending_in.ensures has.0).1 has.1 in cc),
)
