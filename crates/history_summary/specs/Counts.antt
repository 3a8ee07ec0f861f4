-- What is counted of the events of a history.
use Rattle.std.specs.Prelude.{◌≡◌, ℕ, Bool, true, false, List, count_by, sum_by, length}
use Rattle.history_core.specs.declared.event.Event.{Event}
use Rattle.history_core.specs.declared.event.Event.TheVariants.{Read}
use Rattle.history_core.specs.Events.{opened, begun}
use Rattle.history_summary.specs.declared.counts.Counts.{Counts}
use Rattle.history_summary.specs.Latest.{HasWeak}

-- an external read of a cell
abbrev pub is_read : Event → Bool
is_read (Read s cell source count word value) = true
is_read _ = false

abbrev pub reads : List Event → ℕ
reads events = count_by is_read events

-- from how many writes the read picked
abbrev pub offer_of : Event → ℕ
offer_of (Read s cell source count word value) = count
offer_of _ = 0

abbrev pub offered : List Event → ℕ
offered events = sum_by offer_of events

-- the counts are those of the events
pub record AreCounts (all : List Event) (counts : Counts) : Type 0 where
  pub sessions : counts.sessions ≡ opened all
  pub transactions : counts.transactions ≡ begun all
  pub events : counts.events ≡ length all
  pub reads : counts.reads ≡ reads all
  pub offered : counts.offered ≡ offered all
  pub weak : HasWeak all counts.weak
