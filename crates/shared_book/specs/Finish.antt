-- What the end of a shared history tells.
use Rattle.std.specs.Prelude.{◌≡◌, ℕ, Some, List, ◌++◌, slice_get, All, Any, Contains}
use Rattle.sql_tree.specs.declared.table.Table.{Table}
use Rattle.history_core.specs.declared.event.Event.{Event}
use Rattle.history_core.specs.Events.{session_in}
use Rattle.history_core.specs.Chronicle.{Chronicle, IsLegalChronicle, own_events}

-- one of the events is of the session
abbrev pub HasEventOf : ℕ → List Event → Type 0
HasEventOf session events = Any (λ e. session_in e ≡ session) events

-- The shared history that went on from `start` has ended as `history`, where books made these lists of events their own.
pub record Finished (start : Chronicle) (lists : List (List Event)) (history : Chronicle) : Type 0 where
  pub legal : IsLegalChronicle history
  pub level : history.level ≡ start.level
  pub initial : history.initial ≡ start.initial
  pub added : List Event
  pub events : history.events ≡ start.events ++ added
  pub more : List Table
  pub tables : history.tables ≡ start.tables ++ more
  -- of each session that stands in a list, the history has just that list's events, in their order
  pub whole : All (λ own. (session : ℕ) → HasEventOf session own → own_events history.events session ≡ own_events own session) lists
  -- each event that came stands in one of the lists
  pub held : (e : Event) → Contains added e → Any (λ own. Contains own e) lists
  -- no session stands in two of them
  pub apart : (i j session : ℕ) (one other : List Event) → slice_get lists i ≡ Some one → slice_get lists j ≡ Some other →
      HasEventOf session one → HasEventOf session other → i ≡ j
  -- and a session of the start in none
  pub start_is_free : (session : ℕ) → HasEventOf session start.events → Any (HasEventOf session) lists → ⊥
