-- What a transaction that begins comes after, and which events force nothing.
use Rattle.std.specs.Prelude.{◌≡◌, ◌≤◌, ◌+◌, ◌⊎◌, ℕ, List, [], ◌∷◌, ◌++◌}
use Rattle.cell_base.specs.declared.level.Level.{Level}
use Rattle.history_core.specs.declared.event.Event.{Event}
use Rattle.history_core.specs.declared.event.Event.TheVariants.{Begin, Read}
use Rattle.history_core.specs.Events.{begun}
use Rattle.history_core.specs.Transactions.{IsStart}
use Rattle.history_core.specs.Relations.{IsSessionOrdered}

-- neither a begin nor an external read of a cell
abbrev pub ForcesNothing : Event → Type 0
ForcesNothing (Begin s level) = ⊥
ForcesNothing (Read s cell source count word value) = ⊥
ForcesNothing _ = Unit {0}

-- the history with a further transaction of the session
abbrev pub with_begin : List Event → ℕ → Level → List Event
with_begin events session level = events ++ Begin session level ∷ []

-- session order has the first before the transaction that begins
abbrev pub IsBeforeBegun : List Event → ℕ → Level → ℕ → ℕ → Type 0
IsBeforeBegun events session level a b = (b ≡ begun events + 1) × IsSessionOrdered (with_begin events session level) a b

-- the last transaction that the session has begun, or the initial one where it has begun none
pub record IsLastBegun (events : List Event) (session last : ℕ) : Type 0 where
  pub is : (last ≡ 0) ⊎ ((place : ℕ) × IsStart events last session place)
  pub latest : (other place : ℕ) → IsStart events other session place → other ≤ last

-- the initial transaction and the last one of the session, before the transaction that begins
abbrev pub IsBeginLink : List Event → ℕ → ℕ → ℕ → Type 0
IsBeginLink events last a b = (b ≡ begun events + 1) × ((a ≡ 0) ⊎ (a ≡ last))
