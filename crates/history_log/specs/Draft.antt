-- A history as far as its text has been read.
use Rattle.std.specs.Prelude.{◌≡◌, ◌≢◌, ◌⊎◌, ℕ, List, [], ◌∷◌, ◌++◌, map}
use Rattle.std.specs.List.{AllByRecursion}
use Rattle.cell_base.specs.declared.cell.Cell.{Cell}
use Rattle.cell_base.specs.declared.value.Value.{Value}
use Rattle.history_core.specs.declared.event.Event.{Event}
use Rattle.history_log.specs.declared.keyword.Keyword.{Keyword}
use Rattle.history_log.specs.declared.draft.Draft.{Draft}
use Rattle.history_log.specs.declared.draft.Place.{Place}
use Rattle.history_log.specs.declared.draft.Place.TheVariants.{Body, End, Done}
use Rattle.history_log.specs.declared.version.Version.{Version}
use Rattle.history_log.specs.declared.version.Version.TheVariants.{One, Two, Three}
use Rattle.history_log.specs.Spelling.{cell_word, value_word, head_line, initial_line, event_line, order_line, end_line}
use Rattle.history_log.specs.Reading.{IsU32, IsNumbers, IsEventAfter}
use Rattle.history_core.specs.Initial.{IsInitialState}
use Rattle.history_log.specs.Log.{IsInitialCell, AreInitialCells, AreEventsIn}

-- the order and the end, as far as they have come
abbrev pub ending : Place → List ℕ → List (List ℕ)
ending Body order = []
ending End order = order_line order ∷ []
ending Done order = order_line order ∷ end_line ∷ []

-- the lines that have been read
abbrev pub said : Draft → List (List ℕ)
said d = head_line d.version d.trace.level ∷ (map initial_line d.trace.initial ++ (map (event_line d.version) d.trace.events ++ ending d.place d.trace.order))

-- what a version can say of the initial state, so far
abbrev pub IsInitialSoFar : Version → List (Cell × Value) → Type 0
IsInitialSoFar One initial = initial ≡ []
IsInitialSoFar Two initial = initial ≡ []
IsInitialSoFar Three initial = AreInitialCells initial

-- in version 3 the initial state isn't empty
abbrev pub HasInitial : Version → List (Cell × Value) → Type 0
HasInitial v initial = v ≡ Three → initial ≢ []

-- what is read so far may go on
pub record IsRight (d : Draft) : Type 0 where
  pub initial : IsInitialSoFar d.version d.trace.initial
  pub begun : (d.place ≢ Body) ⊎ (d.trace.events ≢ []) → HasInitial d.version d.trace.initial
  pub events : AreEventsIn d.version d.trace.level d.trace.events
  pub order : AllByRecursion IsU32 d.trace.order

-- the next cell of the initial state
abbrev pub IsNextRow : Draft → Cell × Value → List (List ℕ) → Type 0
IsNextRow d x words = (d.version ≡ Three) × (d.trace.events ≡ []) × IsInitialCell x × IsInitialState (d.trace.initial ++ x ∷ []) × (words ≡ cell_word x.0 ∷ value_word x.1 ∷ [])

-- the next event
abbrev pub IsNextEvent : Draft → Keyword → Event → List (List ℕ) → Type 0
IsNextEvent d keyword event words = HasInitial d.version d.trace.initial × IsEventAfter d.version d.trace.level keyword event words

-- the order
abbrev pub IsNextOrder : Draft → List ℕ → List (List ℕ) → Type 0
IsNextOrder d order words = HasInitial d.version d.trace.initial × IsNumbers order words
