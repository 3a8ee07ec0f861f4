use Rattle.std.proofs.Common.{◌≡◌, ℕ, Option, Some, None, List, sym, ◌∙◌, ◌↔◌}
use Rattle.std.proofs.lemmas.Bool.{false≢true}
use Rattle.history_core.specs.declared.event.Event.{Event}
use Rattle.history_core.specs.Transactions.{IsPending, HasPending}
use Rattle.seat_samples.proofs.seats.has_pending.Goals as goal

none_pending : (events : List Event) (s : ℕ) (found : Option ℕ) → found ≡ None → ((n : ℕ) → (found ≡ Some n) ↔ IsPending events n s) → HasPending events s → ⊥
none_pending events s found none exact pending = let both : None ≡ Some pending.0 = sym none ∙ (exact pending.0).1 pending.1 in cc

pub returns-in-None : goal.returns-in-None
returns-in-None c = (
  λ h. absurd (false≢true h),
  λ pending. absurd (none_pending c.args.history.now.events c.args.session c.pending.result c.in-None.is c.pending.ensures pending),
)
