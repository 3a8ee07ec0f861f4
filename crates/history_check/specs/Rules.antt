-- What each event of a history has to keep to, given the events before it, in the order in which a breach is told.
use Rattle.std.specs.Prelude.{◌≡◌, ◌<◌, ◌≤◌, ◌+◌, ℕ, Option, Some, None, List, Contains, length}
use Rattle.cell_base.specs.declared.cell.Cell.{Cell}
use Rattle.cell_base.specs.declared.value.Value.{Value}
use Rattle.history_core.specs.declared.event.Event.{Event}
use Rattle.history_core.specs.declared.event.Event.TheVariants.{Open, Close, Define, Look, Begin, Scan, Read, Own, Write, Commit, Rollback, Show}
use Rattle.history_core.specs.Events.{opened, begun, names, defined, table_of}
use Rattle.history_core.specs.Initial.{IsStorable}
use Rattle.history_core.specs.Transactions.{IsPending, HasPending}
use Rattle.history_core.specs.Relations.{LastWrites, Writes, WritesValue}
use Rattle.history_core.specs.Legal.{IsOpen, IsDefined, WroteItself, ListsKeys}
use Rattle.history_core.specs.Forced.{AreCandidates}

-- the rules of one event
pub data Rule : Type 0 where
  shape : Rule
  number : Rule
  keys : Rule
  own : Rule
  source : Rule
  value : Rule
  count : Rule

-- the place of a rule in the order in which breaches are told
abbrev pub rank : Rule → ℕ
rank shape = 0
rank number = 1
rank keys = 2
rank own = 3
rank source = 4
rank value = 5
rank count = 6

-- the state of the session allows the event; each session, table and transaction that it names is the next one or is there; a name isn't taken; a
-- value can be written
abbrev pub IsInShape : List Event → Event → Type 0
IsInShape before (Open s) = s ≡ opened before + 1
IsInShape before (Close s) = IsOpen before s × (¬ HasPending before s)
IsInShape before (Define s name) = IsOpen before s × (¬ Contains (names before) name)
IsInShape before (Look s tables) = IsOpen before s
IsInShape before (Begin s level) = IsOpen before s × (¬ HasPending before s)
IsInShape before (Scan s table listed) = HasPending before s × IsDefined before table
IsInShape before (Read s cell from offered word v) = HasPending before s × IsDefined before (table_of cell) × (from ≤ begun before)
IsInShape before (Own s cell v) = HasPending before s × IsDefined before (table_of cell)
IsInShape before (Write s cell v) = HasPending before s × IsDefined before (table_of cell) × IsStorable v
IsInShape before (Commit s) = HasPending before s
IsInShape before (Rollback s) = HasPending before s
IsInShape before (Show s n) = IsOpen before s

-- what a look or a show has to say: the number of tables, or its own number
abbrev pub right_number : List Event → Event → Option ℕ
right_number before (Look s tables) = Some (defined before)
right_number before (Show s n) = Some (length before + 1)
right_number before _ = None

-- a look or a show says it
abbrev pub SaysRightNumber : List Event → Event → Type 0
SaysRightNumber before (Look s tables) = tables ≡ defined before
SaysRightNumber before (Show s n) = n ≡ length before + 1
SaysRightNumber before _ = Unit {0}

-- a scan lists the rows that are there from the start, and those that committed transactions or its own one wrote, ascending
abbrev pub ListsRightKeys : List (Cell × Value) → List Event → Event → Type 0
ListsRightKeys initial before (Scan s table listed) = ListsKeys initial before s table listed
ListsRightKeys initial before _ = Unit {0}

-- an external read is of a cell that the own transaction hasn't written, an internal one of a cell that it has
abbrev pub ReadsByOwnWrites : List Event → Event → Type 0
ReadsByOwnWrites before (Read s cell from offered word v) = ¬ WroteItself before s cell
ReadsByOwnWrites before (Own s cell v) = WroteItself before s cell
ReadsByOwnWrites before _ = Unit {0}

-- the source of an external read is the initial transaction or a committed writer of the cell
abbrev pub HasSource : List Event → Event → Type 0
HasSource before (Read s cell from offered word v) = Writes before from cell
HasSource before _ = Unit {0}

-- an external read has the value of its source, an internal one the last that the own transaction wrote
abbrev pub HasValue : List (Cell × Value) → List Event → Event → Type 0
HasValue initial before (Read s cell from offered word v) = WritesValue initial before from cell v
HasValue initial before (Own s cell v) = (txn : ℕ) × IsPending before txn s × LastWrites before txn cell v
HasValue initial before _ = Unit {0}

-- so many transactions write the cell, the initial one among them
abbrev pub HasCandidates : List Event → Cell → ℕ → Type 0
HasCandidates before cell n = (candidates : List ℕ) × AreCandidates before cell candidates × (n ≡ length candidates)

-- an external read was offered some source, and no more than there are
abbrev pub HasCount : List Event → Event → Type 0
HasCount before (Read s cell from offered word v) = (0 < offered) × ((n : ℕ) × HasCandidates before cell n × (offered ≤ n))
HasCount before _ = Unit {0}

-- the event keeps to the rule
abbrev pub Keeps : List (Cell × Value) → List Event → Event → Rule → Type 0
Keeps initial before event shape = IsInShape before event
Keeps initial before event number = SaysRightNumber before event
Keeps initial before event keys = ListsRightKeys initial before event
Keeps initial before event own = ReadsByOwnWrites before event
Keeps initial before event source = HasSource before event
Keeps initial before event value = HasValue initial before event
Keeps initial before event count = HasCount before event

-- the event keeps to all rules
abbrev pub IsRight : List (Cell × Value) → List Event → Event → Type 0
IsRight initial before event = (rule : Rule) → Keeps initial before event rule
