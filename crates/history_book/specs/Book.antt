-- A book: one session's way to a history that others may add to as well.
use Rattle.std.specs.Prelude.{◌≡◌, ◌≢◌, ◌<◌, ◌⊎◌, ℕ, List, [], ◌∷◌, ◌++◌, length, All, Any, Contains, Result, IfOk}
use Rattle.cell_base.specs.declared.cell.Cell.{Cell}
use Rattle.cell_base.specs.declared.value.Value.{Value}
use Rattle.sql_tree.specs.declared.table.Table.{Table}
use Rattle.history_core.specs.declared.event.Event.{Event}
use Rattle.history_core.specs.declared.event.Event.TheVariants.{Define, Look, Own, Read}
use Rattle.history_core.specs.declared.fault.BookFault.{BookFault}
use Rattle.history_core.specs.declared.fault.DefineAnswer.{DefineAnswer}
use Rattle.history_core.specs.declared.fault.DefineAnswer.TheVariants.{Defined, Taken}
use Rattle.history_core.specs.Events.{session_in, names}
use Rattle.history_core.specs.Chronicle.{Chronicle}

-- where the session of a book stands: none is open; one is open with nothing pending; its transaction is pending, with these writes so far
pub data SessionState : Type 0 where
  no_session : SessionState
  in_session : ℕ → SessionState
  pending : ℕ → List (Cell × Value) → SessionState

-- the history that a book has seen, the events that it made itself, and where its session stands
pub record Past : Type 0 where
  pub seen : Chronicle
  pub own : List Event
  pub state : SessionState

abbrev pub HasSession : SessionState → Type 0
HasSession no_session = ⊥
HasSession (in_session s) = Unit {0}
HasSession (pending s writes) = Unit {0}

abbrev pub IsIdle : SessionState → Type 0
IsIdle no_session = ⊥
IsIdle (in_session s) = Unit {0}
IsIdle (pending s writes) = ⊥

abbrev pub IsInTransaction : SessionState → Type 0
IsInTransaction no_session = ⊥
IsInTransaction (in_session s) = ⊥
IsInTransaction (pending s writes) = Unit {0}

-- the number of the session, where one is open
abbrev pub session_of : SessionState → ℕ
session_of no_session = 0
session_of (in_session s) = s
session_of (pending s writes) = s

-- what the pending transaction wrote, in order
abbrev pub writes_of : SessionState → List (Cell × Value)
writes_of no_session = []
writes_of (in_session s) = []
writes_of (pending s writes) = writes

-- the pending transaction has not written the cell
abbrev pub IsUnwritten : Cell → SessionState → Type 0
IsUnwritten cell state = All (λ write. write.0 ≢ cell) (writes_of state)

-- the pending transaction has written the cell
abbrev pub HasWrite : Cell → SessionState → Type 0
HasWrite cell state = Any (λ write. write.0 ≡ cell) (writes_of state)

-- the last of these writes to the cell writes the value
pub record WritesLast (writes : List (Cell × Value)) (cell : Cell) (value : Value) : Type 0 where
  pub before : List (Cell × Value)
  pub after : List (Cell × Value)
  pub split : writes ≡ before ++ (cell, value) ∷ after
  pub last : All (λ write. write.0 ≢ cell) after

-- the value is what the pending transaction wrote last to the cell
abbrev pub LastWrite : Cell → Value → SessionState → Type 0
LastWrite cell value state = WritesLast (writes_of state) cell value

-- the table of the cell is defined, as the book has seen it
abbrev pub HasTable : Past → ℕ → Type 0
HasTable past table = table < length past.seen.tables

-- the history goes on with the events of others
pub record GoesOn (old new : Past) : Type 0 where
  pub level : new.seen.level ≡ old.seen.level
  pub initial : new.seen.initial ≡ old.seen.initial
  pub others : List Event
  pub seen : new.seen.events ≡ old.seen.events ++ others
  pub foreign : All (λ e. session_in e ≢ session_of old.state) others
  pub more : List Table
  pub tables : new.seen.tables ≡ old.seen.tables ++ more
  pub own : new.own ≡ old.own
  pub state : new.state ≡ old.state

-- others may go on, and then just this event is added
pub record Adds (old : Past) (event : Event) (new : Past) : Type 0 where
  pub level : new.seen.level ≡ old.seen.level
  pub initial : new.seen.initial ≡ old.seen.initial
  pub others : List Event
  pub seen : new.seen.events ≡ old.seen.events ++ others ++ event ∷ []
  pub foreign : All (λ e. session_in e ≢ session_in event) others
  pub more : List Table
  pub tables : new.seen.tables ≡ old.seen.tables ++ more
  pub own : new.own ≡ old.own ++ event ∷ []

-- a read of the cell is added, with some source and count, which hold what the level of its transaction permits
pub record AddsRead (old : Past) (cell : Cell) (word : ℕ) (value : Value) (new : Past) : Type 0 where
  pub source : ℕ
  pub count : ℕ
  pub adds : Adds old (Read (session_of old.state) cell source count word value) new

-- the tables from a number on, as they are then, and their number
pub record AnswersTables (old : Past) (known : ℕ) (tables : List Table) (new : Past) : Type 0 where
  pub before : List Table
  pub whole : new.seen.tables ≡ before ++ tables
  pub known_is : length before ≡ known
  pub adds : Adds old (Look (session_of old.state) (length new.seen.tables)) new

-- a definition, or a look where the name is taken
abbrev pub AnswersDefine : Past → Table → DefineAnswer → Past → Type 0
AnswersDefine old table (Defined n) new =
    (before : List Table) × (new.seen.tables ≡ before ++ table ∷ []) × (length before ≡ n) × Adds old (Define (session_of old.state) table.name) new
AnswersDefine old table (Taken n) new =
    (n ≡ length new.seen.tables) × Contains (names new.seen.events) table.name × Adds old (Look (session_of old.state) n) new

-- a cell that the pending transaction wrote is read back, unless that is refused: the value is what it wrote last
pub record AnswersOwn (old : Past) (cell : Cell) (result : Result Value BookFault) (new : Past) : Type 0 where
  pub written : HasWrite cell old.state
  pub ok : IfOk result (λ value. Adds old (Own (session_of old.state) cell value) new)
  pub last : IfOk result (λ value. LastWrite cell value old.state)

-- a cell that it didn't write is read by the word, unless that is refused
pub record AnswersRead (old : Past) (cell : Cell) (word : ℕ) (result : Result Value BookFault) (new : Past) : Type 0 where
  pub unwritten : IsUnwritten cell old.state
  pub ok : IfOk result (λ value. AddsRead old cell word value new)

-- An own write is read back, and no word is drawn. For another cell one word is drawn, also where the read is refused.
abbrev pub AnswersTouch : {W : Type 0} → (W → ℕ → W → Type 0) → Past → W → Cell → Result Value BookFault → Past → W → Type 0
AnswersTouch gives old before cell result new after =
    (AnswersOwn old cell result new × (after ≡ before))
    ⊎ ((word : ℕ) × gives before word after × AnswersRead old cell word result new)
