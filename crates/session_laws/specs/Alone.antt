-- When the events of one session, read in order, keep the rows of tables whole.
use Rattle.std.specs.Prelude.{◌≡◌, ℕ, List, [], ◌∷◌, ◌++◌}
use Rattle.cell_base.specs.declared.cell.Cell.{Cell}
use Rattle.cell_base.specs.declared.key.Key.{Key}
use Rattle.sql_tree.specs.declared.table.Table.{Table}
use Rattle.history_core.specs.declared.event.Event.{Event}
use Rattle.history_core.specs.declared.event.Event.TheVariants.{Begin, Read, Own, Write, Rollback}
use Rattle.statement_laws.specs.RowCourses.{shown_after, owed_after, MayAsk, MayWrite}

-- the tables are the first of these
pub record AreFirst (some all : List Table) : Type 0 where
  pub more : List Table
  pub whole : all ≡ some ++ more

-- Where these rows were shown to be there since the transaction began, and these fields are owed: a field is read from the history of a row
-- that was shown to be there; a row that is written as there is written whole. What is owed is written before anything else comes but a
-- rollback.
abbrev pub MayFollow : List Table → List (ℕ × Key) → List Cell → Event → Type 0
MayFollow tables shown owed (Read session cell source count word value) = (owed ≡ []) × MayAsk tables shown cell
MayFollow tables shown owed (Write session cell value) = MayWrite tables owed cell value
MayFollow tables shown owed (Rollback session) = Unit {0}
MayFollow tables shown owed _ = owed ≡ []

-- the rows that were shown to be there, once the event has come
abbrev pub shown_following : List (ℕ × Key) → Event → List (ℕ × Key)
shown_following shown (Begin session level) = []
shown_following shown (Read session cell source count word value) = shown_after shown cell value
shown_following shown (Own session cell value) = shown_after shown cell value
shown_following shown _ = shown

-- the fields that are owed then
abbrev pub owed_following : List Table → List Cell → Event → List Cell
owed_following tables owed (Write session cell value) = owed_after tables owed cell value
owed_following tables owed (Rollback session) = []
owed_following tables owed _ = owed

abbrev pub KeepsRowsFrom : List Table → List (ℕ × Key) → List Cell → List Event → Type 0
KeepsRowsFrom tables shown owed [] = Unit {0}
KeepsRowsFrom tables shown owed (e ∷ es) =
    MayFollow tables shown owed e × KeepsRowsFrom tables (shown_following shown e) (owed_following tables owed e) es

-- one after another, from the first one on
abbrev pub KeepsRowsAlone : List Table → List Event → Type 0
KeepsRowsAlone tables own = KeepsRowsFrom tables [] [] own
