-- Tables that are defined one after another in the first session of a history.
use Rattle.std.specs.Prelude.{◌≡◌, ◌≢◌, ◌≤◌, ◌<◌, ℕ, Some, List, [], ◌∷◌, ◌++◌, All, length, slice_get}
use Rattle.cell_base.specs.declared.cell.Cell.{Cell}
use Rattle.cell_base.specs.declared.level.Level.{Level}
use Rattle.cell_base.specs.declared.value.Value.{Value}
use Rattle.sql_tree.specs.declared.table.Table.{Table}
use Rattle.sound_table.specs.Sound.{IsSound}
use Rattle.history_core.specs.declared.event.Event.TheVariants.{Open, Close}
use Rattle.history_core.specs.Chronicle.{Chronicle}
use Rattle.history_core.specs.Initial.{initial_load}
use Rattle.history_book.specs.Book.{Past, no_session, in_session}
use Rattle.committed_rows.specs.Start.{definitions}

-- a history in which session 1 has defined these tables, and is still open
abbrev pub defined_so_far : Level → List (Cell × Value) → List Table → Chronicle
defined_so_far level initial tables = record { level = level; initial = initial; events = Open 1 ∷ definitions tables; tables = tables }

-- the same, with session 1 closed
abbrev pub started : Level → List (Cell × Value) → List Table → Chronicle
started level initial tables =
    record { level = level; initial = initial; events = Open 1 ∷ (definitions tables ++ Close 1 ∷ []); tables = tables }

-- the tables can stand in one history: each is sound, no two have one name, and there are not too many
pub record CanStand (tables : List Table) : Type 0 where
  pub sound : All IsSound tables
  pub apart : (i j : ℕ) (a b : Table) → i < j → slice_get tables i ≡ Some a → slice_get tables j ≡ Some b → a.name ≢ b.name
  pub few : length tables ≤ 64

-- nothing has happened, and there is room for the first event
pub record IsFresh (past : Past) : Type 0 where
  pub events : past.seen.events ≡ []
  pub tables : past.seen.tables ≡ []
  pub state : past.state ≡ no_session
  pub load : initial_load past.seen.initial < 1048576

-- session 1 is open, and has defined the tables of the history, and done nothing else
pub record HasDefined (past : Past) : Type 0 where
  pub seen : past.seen ≡ defined_so_far past.seen.level past.seen.initial past.seen.tables
  pub state : past.state ≡ in_session 1

-- session 1 defines these tables after those that it had defined
pub record DefinesMore (old : Past) (more : List Table) (new : Past) : Type 0 where
  pub defined : HasDefined new
  pub level : new.seen.level ≡ old.seen.level
  pub initial : new.seen.initial ≡ old.seen.initial
  pub tables : new.seen.tables ≡ old.seen.tables ++ more

-- the table may be defined next
pub record MayDefine (past : Past) (table : Table) : Type 0 where
  pub sound : IsSound table
  pub fresh : All (λ t. t.name ≢ table.name) past.seen.tables
  pub few : length past.seen.tables < 64
