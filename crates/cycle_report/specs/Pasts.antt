-- The causal past of each transaction, as how far each session is in it.
use Rattle.std.specs.Prelude.{◌≡◌, ◌<◌, ◌≤◌, ◌+◌, ◌↔◌, ◌⊎◌, ℕ, Some, List, [], ◌∷◌, ◌++◌, length, slice_get, slice_set, slice_index}
use Rattle.history_core.specs.declared.event.Event.{Event}
use Rattle.history_core.specs.Events.{begun}
use Rattle.history_core.specs.Transactions.{IsStart}
use Rattle.history_core.specs.Relations.{PrecedesCausally}
use Rattle.history_core.specs.Kept.{ChangesOne}
use Rattle.cycle_report.specs.declared.pasts.Past.{Past}
use Rattle.cycle_report.specs.declared.pasts.Pasts.{Pasts}

-- of each session the past has the transactions up to the one that stands at the session
pub record IsPastOf (events : List Event) (width number : ℕ) (past : Past) : Type 0 where
  pub count : length past.tops.items ≡ width
  pub within : past.session < width
  pub bounded : (session : ℕ) → slice_index past.tops.items session ≤ begun events
  pub started : 0 < number → (place : ℕ) × IsStart events number past.session place
  pub exact : (session writer place : ℕ) → IsStart events writer session place →
      (writer ≤ slice_index past.tops.items session) ↔ PrecedesCausally events writer number

-- each transaction has its past at its number
pub record AreRows (events : List Event) (width : ℕ) (rows : List Past) : Type 0 where
  pub count : length rows ≡ begun events + 1
  pub each : (number : ℕ) (past : Past) → slice_get rows number ≡ Some past → IsPastOf events width number past

abbrev pub ArePasts : List Event → Pasts → Type 0
ArePasts events pasts = AreRows events pasts.width pasts.rows.items

-- what was in the past, the source of this number, and what is in the past of the source
pub record TakesIn (number : ℕ) (source old new : Past) : Type 0 where
  pub session : new.session ≡ old.session
  pub count : length new.tops.items ≡ length old.tops.items
  pub exact : (session writer : ℕ) → session < length old.tops.items →
      (writer ≤ slice_index new.tops.items session)
      ↔ ((writer ≤ slice_index old.tops.items session)
      ⊎ ((writer ≤ slice_index source.tops.items session) ⊎ ((session ≡ source.session) × (writer ≤ number))))

-- the past of the reader is another, which takes in the source and its past
pub record TakesFrom (reader source : ℕ) (old new : List Past) : Type 0 where
  pub from : Past
  pub is : slice_get old source ≡ Some from
  pub changes : ChangesOne old new reader (TakesIn source from)

-- the past of a transaction of the session stands after the others: that of the last one there, and the last one
pub record AddsAfter (last session : ℕ) (old new : List Past) : Type 0 where
  pub before : Past
  pub is : slice_get old last ≡ Some before
  pub past : Past
  pub adds : new ≡ old ++ past ∷ []
  pub session_is : past.session ≡ session
  pub tops : past.tops.items ≡ slice_set before.tops.items session last
