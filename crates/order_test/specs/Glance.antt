-- What is light of the events: for each its transaction, for each transaction a limit of its causal past, whether session order is kept, and
-- whether there is a scan.
use Rattle.std.specs.Prelude.{◌≡◌, ◌<◌, ◌≤◌, ◌+◌, ℕ, Bool, Some, IsTrue, List, [], ◌∷◌, ◌++◌, length, slice_get, slice_set, slice_index, take}
use Rattle.history_core.specs.declared.event.Event.{Event}
use Rattle.history_core.specs.declared.event.Event.TheVariants.{Scan}
use Rattle.history_core.specs.Events.{begun, session_in}
use Rattle.history_core.specs.Relations.{PrecedesCausally}
use Rattle.further_reads.specs.Begun.{IsLastBegun}
use Rattle.order_test.specs.declared.glance.Glance.{Glance}
use Rattle.order_test.specs.Unkept.{KeepsSessions}
use Rattle.order_test.specs.Places.{StandsAt}

-- each event is one of a session below the width
abbrev pub AreWithin : ℕ → List Event → Type 0
AreWithin width events = (k : ℕ) (event : Event) → slice_get events k ≡ Some event → session_in event < width

-- at each session below the width stands the last transaction that it has begun
abbrev pub AreLast : List Event → ℕ → List ℕ → Type 0
AreLast events width last = (session : ℕ) → session < width → IsLastBegun events session (slice_index last session)

-- there is room for one session at least and for that of each event, and at each stands the last transaction that it has begun
pub record HoldsLast (events : List Event) (last : List ℕ) : Type 0 where
  pub some : 0 < length last
  pub within : AreWithin (length last) events
  pub each : AreLast events (length last) last

-- the list is lengthened to the width, by zeros
pub record IsWidened (width : ℕ) (old new : List ℕ) : Type 0 where
  pub wider : length old ≤ width
  pub count : length new ≡ width
  pub kept : (session : ℕ) → session < length old → slice_index new session ≡ slice_index old session
  pub zeros : (session : ℕ) → length old ≤ session → session < width → slice_index new session ≡ 0

-- beside each event stands the last transaction that its session had begun before it
pub record AreOwners (events : List Event) (owners : List ℕ) : Type 0 where
  pub count : length owners ≡ length events
  pub each : (k : ℕ) (event : Event) → slice_get events k ≡ Some event → IsLastBegun (take k events) (session_in event) (slice_index owners k)

-- none in the causal past of the transaction is above the limit
abbrev pub IsLimitOf : List Event → ℕ → ℕ → Type 0
IsLimitOf events number limit = (writer : ℕ) → PrecedesCausally events writer number → writer ≤ limit

-- each transaction has its limit at its number
pub record AreLimits (events : List Event) (limits : List ℕ) : Type 0 where
  pub count : length limits ≡ begun events + 1
  pub each : (number : ℕ) → number ≤ begun events → IsLimitOf events number (slice_index limits number)

-- a scan
abbrev pub IsScan : Event → Type 0
IsScan (Scan session table keys) = Unit {0}
IsScan _ = ⊥

-- where one of the events is a scan it is told
abbrev pub TellsScans : List Event → Bool → Type 0
TellsScans events told = (k : ℕ) (event : Event) → slice_get events k ≡ Some event → IsScan event → IsTrue told

pub record IsGlance (events : List Event) (order : List ℕ) (glance : Glance) : Type 0 where
  pub last : HoldsLast events glance.last.items
  pub owners : AreOwners events glance.owners.items
  pub limits : AreLimits events glance.limits.items
  pub keeps : IsTrue glance.keeps → KeepsSessions events order
  pub scans : TellsScans events glance.scans

-- what was light before the event, and its transaction, which stands beside it
pub record IsNoted (events : List Event) (order : List ℕ) (event : Event) (owner : ℕ) (glance : Glance) : Type 0 where
  pub last : HoldsLast events glance.last.items
  pub owners : AreOwners (events ++ event ∷ []) glance.owners.items
  pub limits : AreLimits events glance.limits.items
  pub keeps : IsTrue glance.keeps → KeepsSessions events order
  pub scans : TellsScans events glance.scans
  pub of : IsLastBegun events (session_in event) owner
  pub within : session_in event < length glance.last.items

-- a transaction of the session begins after its last one there, whose limit and number the new limit isn't below
pub record AddsLimit (places : List ℕ) (session last : ℕ) (old new : Glance) : Type 0 where
  pub last_is : new.last.items ≡ slice_set old.last.items session (length old.limits.items)
  pub owners : new.owners.items ≡ old.owners.items
  pub limit : ℕ
  pub limits : new.limits.items ≡ old.limits.items ++ limit ∷ []
  pub top : (last ≤ limit) × (slice_index old.limits.items last ≤ limit)
  pub keeps : IsTrue new.keeps → IsTrue old.keeps × StandsAt places last (length old.limits.items)
  pub scans : new.scans ≡ old.scans

-- the limit of the reader is raised to the source and to its limit
pub record RaisesLimit (reader source : ℕ) (old new : List ℕ) : Type 0 where
  pub limit : ℕ
  pub set_to : new ≡ slice_set old reader limit
  pub own : slice_index old reader ≤ limit
  pub top : (source ≤ limit) × (slice_index old source ≤ limit)
