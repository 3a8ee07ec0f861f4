-- How what a walk through the events keeps stands for the events that it has passed.
use Rattle.std.specs.Prelude.{◌≡◌, ◌≢◌, ◌<◌, ◌≤◌, ◌+◌, ◌*◌, ◌⊎◌, ℕ, Bool, true, false, if◌then◌else◌, List, Contains, ◌++◌, codes, decimal, length, take, nat_eq, unwrap_or}
use Rattle.std.specs.HashMap as hash_map
use Rattle.indexmap.specs.IndexMap as index_map
use Rattle.cell_base.specs.declared.cell.Cell.{Cell}
use Rattle.cell_base.specs.contracts.cell.CellPartialEq.TheImpl as cell_eq
use Rattle.cell_base.specs.declared.value.Value.{Value}
use Rattle.txn_buffer.specs.Buffer.{IsAbsent}
use Rattle.history_core.specs.declared.event.Event.{Event}
use Rattle.history_core.specs.declared.event.Event.TheVariants.{Read}
use Rattle.history_core.specs.Chronicle.{Chronicle, IsFormedChronicle}
use Rattle.history_core.specs.Events.{opened, begun, is_open_event, is_begin}
use Rattle.history_core.specs.Transactions.{IsPending}
use Rattle.history_core.specs.Relations.{HasWritten}
use Rattle.history_summary.specs.declared.counts.Counts.{Counts}
use Rattle.history_summary.specs.declared.latest.Latest.{Latest}
use Rattle.history_summary.specs.declared.latest.Weakness.{Weakness}
use Rattle.history_summary.specs.declared.latest.Weakness.TheVariants as weakness
use Rattle.history_summary.specs.declared.running.Running.{Running}
use Rattle.history_summary.specs.declared.walk.Walk.{Walk}
use Rattle.history_summary.specs.Latest.{IsLatest, HasWeakBelow}
use Rattle.history_summary.specs.Counts.{is_read, reads, offer_of, offered}

-- ---- the writers

abbrev pub same_cell : Cell → Cell → Bool
same_cell = (cell_eq.ghosts).eq

-- the latest writer of the cell, or 0
abbrev pub writer_at : Latest → Cell → ℕ
writer_at latest cell = unwrap_or (index_map.get same_cell latest.writers cell) 0

-- the cell has this writer, and each other cell the one that it had
abbrev pub SetsWriter : Latest → Cell → ℕ → Latest → Type 0
SetsWriter old cell number new =
    (q : Cell) → ((q ≡ cell) × (writer_at new q ≡ number)) ⊎ ((q ≢ cell) × (writer_at new q ≡ writer_at old q))

-- some write is one of the cell
abbrev pub WritesCell : List (Cell × Value) → Cell → Type 0
WritesCell writes cell = (value : Value) × Contains writes (cell, value)

-- each cell of the writes has this writer, and each other cell the one that it had
abbrev pub SetsWriters : Latest → List (Cell × Value) → ℕ → Latest → Type 0
SetsWriters old writes number new =
    (q : Cell) → (WritesCell writes q × (writer_at new q ≡ number)) ⊎ (IsAbsent writes q × (writer_at new q ≡ writer_at old q))

-- each cell that the transaction wrote has it as its writer, and each other cell the one that it had
abbrev pub TakesCells : List Event → ℕ → Latest → Latest → Type 0
TakesCells events number old new =
    (q : Cell) → (HasWritten events number q × (writer_at new q ≡ number)) ⊎ ((¬ HasWritten events number q) × (writer_at new q ≡ writer_at old q))

-- the event reads the cell from another source than its writer
abbrev pub IsStale : Latest → Event → Type 0
IsStale latest (Read s cell source count word value) = source ≢ writer_at latest cell
IsStale latest _ = ⊥

-- whether it is counted as a weak read
abbrev pub is_weak : Weakness → Bool
is_weak weakness.Weak = true
is_weak weakness.Other = false

-- the writers are those before the place
abbrev pub AreLatest : List Event → ℕ → Latest → Type 0
AreLatest events place latest = (cell : Cell) → IsLatest events place cell (writer_at latest cell)

-- ---- the transactions of the sessions

-- the transaction of the session that began last, or 0
abbrev pub number_at : Running → ℕ → ℕ
number_at running session = unwrap_or (hash_map.get nat_eq running.numbers session) 0

-- the session has this number, and each other session the one that it had
abbrev pub SetsNumber : Running → ℕ → ℕ → Running → Type 0
SetsNumber old session number new =
    (s : ℕ) → ((s ≡ session) × (number_at new s ≡ number)) ⊎ ((s ≢ session) × (number_at new s ≡ number_at old s))

-- what is pending before the place is noted
abbrev pub AreRunning : List Event → ℕ → Running → Type 0
AreRunning events place running = (session number : ℕ) → IsPending (take place events) number session → number_at running session ≡ number

-- ---- the counts

-- one more event can be counted
pub record HasRoom (counts : Counts) : Type 0 where
  pub sessions : counts.sessions < 4294967296
  pub transactions : counts.transactions < 4294967295
  pub events : counts.events < 4294967296
  pub reads : counts.reads < 4294967296
  pub offered : counts.offered < 18446744069414584320
  pub weak : counts.weak < 4294967296

-- the event is counted, as a weak read or not
pub record CountsNext (old : Counts) (event : Event) (stale : Bool) (new : Counts) : Type 0 where
  pub sessions : new.sessions ≡ old.sessions + (if is_open_event event then 1 else 0)
  pub transactions : new.transactions ≡ old.transactions + (if is_begin event then 1 else 0)
  pub events : new.events ≡ old.events + 1
  pub reads : new.reads ≡ old.reads + (if is_read event then 1 else 0)
  pub offered : new.offered ≡ old.offered + offer_of event
  pub small : new.offered ≤ old.offered + 4294967295
  pub weak : new.weak ≡ old.weak + (if stale then 1 else 0)

-- the counts are those of the events before the place
pub record AreCountsBelow (all : List Event) (place : ℕ) (counts : Counts) : Type 0 where
  pub sessions : counts.sessions ≡ opened (take place all)
  pub transactions : counts.transactions ≡ begun (take place all)
  pub events : counts.events ≡ place
  pub reads : counts.reads ≡ reads (take place all)
  pub offered : counts.offered ≡ offered (take place all)
  pub small : counts.offered ≤ 4294967295 * counts.events
  pub weak : HasWeakBelow all place counts.weak
  pub few : counts.weak ≤ counts.events

-- a name, which begins and ends with a blank, and a number, for each count
abbrev pub counted_words : Counts → List ℕ
counted_words counts =
    codes " sessions " ++ (decimal counts.sessions ++ (codes " transactions " ++ (decimal counts.transactions ++ (codes " events " ++ (decimal counts.events
    ++ (codes " reads " ++ (decimal counts.reads ++ (codes " offered " ++ (decimal counts.offered ++ (codes " weak " ++ decimal counts.weak))))))))))

-- ---- the walk

-- each event fits what came before, and there are not too many to count them
pub record IsCountable (history : Chronicle) : Type 0 where
  pub formed : IsFormedChronicle history
  pub few : begun history.events ≤ 65535
  pub long : length history.events < 4294967296

-- the walk has passed as many events as it has counted
pub record IsWalked (events : List Event) (walk : Walk) : Type 0 where
  pub within : walk.counts.events ≤ length events
  pub counts : AreCountsBelow events walk.counts.events walk.counts
  pub running : AreRunning events walk.counts.events walk.running
  pub latest : AreLatest events walk.counts.events walk.latest

-- the next event is noted, and isn't counted yet
pub record IsNoted (events : List Event) (old new : Walk) : Type 0 where
  pub counts : new.counts ≡ old.counts
  pub running : AreRunning events (old.counts.events + 1) new.running
  pub latest : AreLatest events (old.counts.events + 1) new.latest

-- the next event is passed
pub record IsPassed (events : List Event) (old new : Walk) : Type 0 where
  pub walked : IsWalked events new
  pub next : new.counts.events ≡ old.counts.events + 1
