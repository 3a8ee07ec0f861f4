-- What stands for a history and for an order of it that is judged, and what is asked of one read.
use Rattle.std.specs.Prelude.{◌≡◌, ◌<◌, ◌+◌, ℕ, Some, IsTrue, List, length, slice_get}
use Rattle.history_core.specs.declared.txn.Seen.{Seen}
use Rattle.history_core.specs.Events.{begun}
use Rattle.history_core.specs.Kept.{StandsForTxns}
use Rattle.history_core.specs.Relations.{Precedes}
use Rattle.saturation.specs.Views.{IsReadFrom}
use Rattle.cell_writers.specs.Numbered.{AreWriters}
use Rattle.order_test.specs.declared.read_at.ReadAt.{ReadAt}
use Rattle.order_test.specs.declared.scene.Scene.{Scene}
use Rattle.order_test.specs.declared.survey.Survey.{Survey}
use Rattle.order_test.specs.Settled.{IsOrderly}
use Rattle.order_test.specs.Unkept.{HoldsTransactions, KeepsSessions}
use Rattle.order_test.specs.Places.{ArePlaces}
use Rattle.order_test.specs.Pasts.{ArePasts}
use Rattle.order_test.specs.Glance.{IsGlance}
use Rattle.order_test.specs.Reaches.{AreReaches}
use Rattle.order_test.specs.Sights.{IsReadAt, IsRival, origin_of}
use Rattle.order_test.specs.Listed.{AreTxnsWithin, ListsCommitted, HasNoRival}
use Rattle.order_test.specs.Firsts.{AreIndexes, HoldCommitted}

-- an orderly history of few events, an order that holds its transactions, and what is light of both
pub record IsSurvey (survey : Survey) : Type 0 where
  pub few_events : length survey.events.now < 4294967296
  pub few : begun survey.events.now < 4294967296
  pub orderly : IsOrderly survey.events.now
  pub holds : HoldsTransactions survey.events.now survey.order.now
  pub places_are : ArePlaces (begun survey.events.now + 1) survey.order.now survey.places.now.at.items
  pub writers_are : AreWriters survey.events.now survey.cells.now
  pub glance_is : IsGlance survey.events.now survey.order.now survey.glance.now
  pub reaches_are : AreReaches survey.places.now.at.items survey.cells.now survey.reaches.now
  pub firsts_are : IsTrue survey.glance.now.scans → HoldCommitted survey.cells.now survey.reaches.now.firsts

-- the order keeps session order, and the records, the causal pasts and the lists stand for the transactions
pub record IsScene (survey : Survey) (scene : Scene) : Type 0 where
  pub txns_are : StandsForTxns survey.events.now scene.txns.now
  pub pasts_are : ArePasts survey.events.now scene.pasts.now
  pub sessions : KeepsSessions survey.events.now survey.order.now
  pub lists_are : ListsCommitted scene.txns.now (length scene.txns.now) scene.lists.now.writers.items
  pub firsts_are : AreIndexes scene.lists.now.writers.items (length scene.txns.now) scene.lists.now.firsts.items
  pub within : AreTxnsWithin (length scene.lists.now.writers.items) scene.txns.now

-- the read is one of the history
abbrev pub IsReadIn : Survey → ReadAt → Type 0
IsReadIn survey read = IsReadAt survey.events.now read.place read.event.now read.reader

-- the other transaction is a rival of the read
abbrev pub IsRivalOf : Survey → ReadAt → ℕ → Type 0
IsRivalOf survey read other = IsRival survey.events.now survey.order.now read.place (origin_of read.event.now) read.reader other

-- no transaction is one
abbrev pub IsUnrivalled : Survey → ReadAt → Type 0
IsUnrivalled survey read = HasNoRival survey.events.now survey.order.now read.place read.event.now read.reader

-- none that directly precedes the reader is one
abbrev pub HasNoDirectRival : Survey → ReadAt → Type 0
HasNoDirectRival survey read = (other : ℕ) → Precedes survey.events.now other read.reader → ¬ IsRivalOf survey read other

-- none from which this was read is one
abbrev pub IsHarmless : Survey → ReadAt → Seen → Type 0
IsHarmless survey read seen = (other : ℕ) → IsReadFrom seen other → ¬ IsRivalOf survey read other

-- so it is with the first n of these
abbrev pub AreHarmless : Survey → ReadAt → ℕ → List Seen → Type 0
AreHarmless survey read n all = (at : ℕ) (seen : Seen) → at < n → slice_get all at ≡ Some seen → IsHarmless survey read seen
