-- Which event may come next, and the limits of a history.
use Rattle.std.specs.Prelude.{◌≡◌, ◌<◌, ◌+◌, ◌%◌, ◌↔◌, ◌⊎◌, ℕ, ◌<ℤ◌, nat_le, if◌then◌else◌, Option, Some, None, List, [], ◌∷◌, ◌++◌, Contains, length, slice_get, take}
use Rattle.std.specs.Ordering.{nat_cmp}
use Rattle.std.specs.Cmp.Lexicographic.{slice_cmp}
use Rattle.std.specs.declared.cmp.Ordering.TheVariants.{Less}
use Rattle.std.specs.List.Sorted.{IsStrictlyIncreasing}
use Rattle.history_core.specs.declared.fault.Limit.{Limit}
use Rattle.history_core.specs.declared.fault.Limit.TheVariants.{Load, Transactions, Sessions, Tables}
use Rattle.cell_base.specs.declared.key.Key.{Key}
use Rattle.cell_base.specs.declared.key.Key.TheVariants.{Int, Text}
use Rattle.cell_base.specs.declared.value.Value.{Value}
use Rattle.cell_base.specs.declared.cell.Cell.{Cell}
use Rattle.cell_base.specs.declared.cell.Cell.TheVariants.{Presence}
use Rattle.history_core.specs.declared.event.Event.{Event}
use Rattle.history_core.specs.declared.event.Event.TheVariants.{Open, Close, Define, Look, Begin, Scan, Read, Own, Write, Commit, Rollback, Show}
use Rattle.history_core.specs.Events.{opened, begun, names, defined, table_of}
use Rattle.history_core.specs.Initial.{IsThereInitially, IsStorable, load_of}
use Rattle.history_core.specs.Transactions.{IsPending, HasPending}
use Rattle.history_core.specs.Relations.{HasWritten, LastWrites, Writes, WritesValue, IsConsistent}

abbrev pub IsOpen : List Event → ℕ → Type 0
IsOpen events session = Contains events (Open session) × (¬ Contains events (Close session))

abbrev pub IsDefined : List Event → ℕ → Type 0
IsDefined events table = table < defined events

-- the pending transaction of the session has written the cell
pub record WroteItself (events : List Event) (session : ℕ) (cell : Cell) : Type 0 where
  pub number : ℕ
  pub pending : IsPending events number session
  pub written : HasWritten events number cell

-- integers by value, then text by bytes
abbrev pub IsKeyBelow : Key → Key → Type 0
IsKeyBelow (Int a) (Int b) = a <ℤ b
IsKeyBelow (Int a) (Text b) = Unit {0}
IsKeyBelow (Text a) (Int b) = ⊥
IsKeyBelow (Text a) (Text b) = slice_cmp nat_cmp a b ≡ Less

-- each key is below those after it, none stands twice, and there are fewer than 2 ^ 32
pub record IsKeyList (keys : List Key) : Type 0 where
  pub ascending : (i j : ℕ) (a b : Key) → i < j → slice_get keys i ≡ Some a → slice_get keys j ≡ Some b → IsKeyBelow a b
  pub once : (i j : ℕ) (key : Key) → slice_get keys i ≡ Some key → slice_get keys j ≡ Some key → i ≡ j
  pub few : length keys < 4294967296

-- the keys of the table that a scan lists, ascending
pub record ListsKeys (initial : List (Cell × Value)) (events : List Event) (session table : ℕ) (keys : List Key) : Type 0 where
  pub ascending : (k : ℕ) (a b : Key) → slice_get keys k ≡ Some a → slice_get keys (k + 1) ≡ Some b → IsKeyBelow a b
  pub listed : (key : Key) → Contains keys key
      ↔ (IsThereInitially initial table key
      ⊎ (((number : ℕ) × (0 < number) × Writes events number (Presence table key)) ⊎ WroteItself events session (Presence table key)))

-- the same without an initial state
pub record ListsWrittenKeys (events : List Event) (session table : ℕ) (keys : List Key) : Type 0 where
  pub ascending : (k : ℕ) (a b : Key) → slice_get keys k ≡ Some a → slice_get keys (k + 1) ≡ Some b → IsKeyBelow a b
  pub listed : (key : Key) → Contains keys key
      ↔ (((number : ℕ) × (0 < number) × Writes events number (Presence table key)) ⊎ WroteItself events session (Presence table key))

-- the event fits what came before; the limits and the isolation level aside
abbrev pub Follows : List (Cell × Value) → List Event → Event → Type 0
Follows initial events (Open s) = s ≡ opened events + 1
Follows initial events (Close s) = IsOpen events s × (¬ HasPending events s)
Follows initial events (Define s name) = IsOpen events s × (¬ Contains (names events) name)
Follows initial events (Look s count) = IsOpen events s × (count ≡ defined events)
Follows initial events (Begin s level) = IsOpen events s × (¬ HasPending events s)
Follows initial events (Scan s table keys) = HasPending events s × IsDefined events table × ListsKeys initial events s table keys
Follows initial events (Read s cell source count word value) =
    HasPending events s × (¬ WroteItself events s cell) × IsDefined events (table_of cell) × WritesValue initial events source cell value
Follows initial events (Own s cell value) = (number : ℕ) × IsPending events number s × LastWrites events number cell value
Follows initial events (Write s cell value) =
    HasPending events s × IsDefined events (table_of cell) × IsStorable value
Follows initial events (Commit s) = HasPending events s
Follows initial events (Rollback s) = HasPending events s
Follows initial events (Show s number) = IsOpen events s × (number ≡ length events + 1)

abbrev pub full_count : List Event → Event → Option Limit
full_count events (Open s) = if nat_le 4096 (opened events) then Some Sessions else None
full_count events (Begin s level) = if nat_le 65535 (begun events) then Some Transactions else None
full_count events (Define s name) = if nat_le 64 (defined events) then Some Tables else None
full_count _ _ = None

-- the limit that keeps out all but what ends a transaction or a session
abbrev pub full_load : List (Cell × Value) → List Event → Option Limit
full_load initial events = if nat_le 1048576 (load_of initial events) then Some Load else None

-- the limit that keeps the event out; none for what ends a transaction or a session
abbrev pub full_for : List (Cell × Value) → List Event → Event → Option Limit
full_for initial events (Close s) = None
full_for initial events (Commit s) = None
full_for initial events (Rollback s) = None
full_for initial events event = if nat_le 1048576 (load_of initial events) then Some Load else full_count events event

-- the write may be read next
abbrev pub IsPermitted : List Event → ℕ → Cell → ℕ → Type 0
IsPermitted events session cell source =
    Writes events source cell
    × ((count word : ℕ) (value : Value) → IsConsistent (events ++ Read session cell source count word value ∷ []))

-- all writes that may be read next, ascending
pub record IsOffer (events : List Event) (session : ℕ) (cell : Cell) (offer : List ℕ) : Type 0 where
  pub ascending : IsStrictlyIncreasing offer
  pub exact : (source : ℕ) → Contains offer source ↔ IsPermitted events session cell source

-- a read takes what the word picks of its offer; each other event needs none
abbrev pub IsOffered : List Event → Event → Type 0
IsOffered events (Read s cell source count word value) =
    (offer : List ℕ) × IsOffer events s cell offer × (count ≡ length offer) × (slice_get offer (word % count) ≡ Some source)
IsOffered events _ = Unit {0}

pub record MayCome (initial : List (Cell × Value)) (events : List Event) (event : Event) : Type 0 where
  pub follows : Follows initial events event
  pub fits : full_for initial events event ≡ None

-- each event fits what came before
abbrev pub IsFormed : List (Cell × Value) → List Event → Type 0
IsFormed initial events = (k : ℕ) (e : Event) → slice_get events k ≡ Some e → MayCome initial (take k events) e

-- and each read was offered
pub record IsLegal (initial : List (Cell × Value)) (events : List Event) : Type 0 where
  pub formed : IsFormed initial events
  pub offered : (k : ℕ) (e : Event) → slice_get events k ≡ Some e → IsOffered (take k events) e

-- it can't be that no write is permitted; a list that holds exactly the permitted ones is then not empty
abbrev pub SomePermitted : List Event → ℕ → Cell → Type 0
SomePermitted events session cell = ((source : ℕ) → IsPermitted events session cell source → ⊥) → ⊥

-- any event but an external read of a cell
abbrev pub ReadsNothing : Event → Type 0
ReadsNothing (Read s cell source count word value) = ⊥
ReadsNothing _ = Unit {0}
