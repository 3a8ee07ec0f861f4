-- Nothing follows a pending transaction.
use Rattle.std.proofs.Common.{ℕ, List, [], ◌∷◌, refl, inl, inr}
use Rattle.graph_base.specs.Chain.{IsChain, Chained}
use Rattle.history_core.specs.declared.event.Event.{Event}
use Rattle.history_core.specs.Transactions.{IsPending}
use Rattle.history_core.specs.Relations.{Precedes}
use Rattle.history_core.specs.Forced.{IsForced}
use Rattle.history_core.proofs.Prefixes.{IsSound, pending_first}
use Rattle.saturation.proofs.After.{pending_no_source}

pub pending_forces_none : (events : List Event) → IsSound events → (n s b : ℕ) → IsPending events n s → IsForced events n b → ⊥
pending_forces_none events sound n s b pending (inl precedes) = pending_first events sound n s b pending precedes
pending_forces_none events sound n s b pending (inr d) = pending_no_source events s n d.cell n pending d.writes refl

-- where no pair begins, no chain does
chain_none : (R : ℕ → ℕ → Type 0) (n : ℕ) → ((b : ℕ) → R n b → ⊥) → (between : List ℕ) (b : ℕ) → IsChain R n between b → ⊥
chain_none R n none [] b link = none b link
chain_none R n none (m ∷ between) b (link, rest) = none m link

pub chained_none : (R : ℕ → ℕ → Type 0) (n : ℕ) → ((b : ℕ) → R n b → ⊥) → (b : ℕ) → Chained R n b → ⊥
chained_none R n none b chain = chain_none R n none chain.between b chain.is

pub pending_reaches_none : (events : List Event) → IsSound events → (n s b : ℕ) → IsPending events n s → Chained (IsForced events) n b → ⊥
pending_reaches_none events sound n s b pending =
    chained_none (IsForced events) n (λ m forced. pending_forces_none events sound n s m pending forced) b

pub pending_precedes_none : (events : List Event) → IsSound events → (n s b : ℕ) → IsPending events n s → Chained (Precedes events) n b → ⊥
pending_precedes_none events sound n s b pending =
    chained_none (Precedes events) n (λ m precedes. pending_first events sound n s m pending precedes) b
