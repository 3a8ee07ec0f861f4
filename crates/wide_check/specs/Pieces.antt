-- What is found in a piece of the events.
use Rattle.std.specs.Prelude.{◌<◌, ◌≤◌, ℕ, List}
use Rattle.history_core.specs.declared.event.Event.{Event}
use Rattle.order_test.specs.Unkept.{IsKeptAt}

-- from one place to another the order keeps what each event asks
abbrev pub AreKeptFrom : List Event → List ℕ → ℕ → ℕ → Type 0
AreKeptFrom events order from to = (place : ℕ) → from ≤ place → place < to → IsKeptAt events order place

-- the first event from one place to another of which the order doesn't keep what it asks, or the end where it keeps what all of them ask
pub record IsFirstUnkeptIn (events : List Event) (order : List ℕ) (from to first : ℕ) : Type 0 where
  pub after : from ≤ first
  pub within : first ≤ to
  pub before : AreKeptFrom events order from first
  pub unkept : first < to → ¬ IsKeptAt events order first
