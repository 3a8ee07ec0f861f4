-- What is kept of each session: its last transaction, and from which transactions that one has read.
use Rattle.std.specs.Prelude.{◌≡◌, ◌≢◌, ◌<◌, ◌⊎◌, ◌↔◌, ℕ, List, [], Contains, length, slice_index_or}
use Rattle.history_core.specs.declared.event.Event.{Event}
use Rattle.history_core.specs.Transactions.{IsPending}
use Rattle.history_core.specs.Relations.{ReadsFrom}
use Rattle.further_reads.specs.Begun.{IsLastBegun}
use Rattle.forced_rows.specs.declared.seats.Seat.{Seat}

-- the seat of a session without a transaction
abbrev pub empty_seat : Seat
empty_seat = record { last = 0; sources = [] }

abbrev pub seat_at : List Seat → ℕ → Seat
seat_at seats session = slice_index_or seats session empty_seat

-- the last transaction that the session has begun, and while one is pending, the transactions but the initial one from which it has read
pub record IsSeatOf (events : List Event) (session : ℕ) (seat : Seat) : Type 0 where
  pub last : IsLastBegun events session seat.last
  pub sources : (reader source : ℕ) → IsPending events reader session → 0 < source → Contains seat.sources source ↔ ReadsFrom events source reader

-- each session has the seat that it had
abbrev pub KeepsSeats : List Seat → List Seat → Type 0
KeepsSeats old new = (session : ℕ) → seat_at new session ≡ seat_at old session

-- the seat of the session has changed so, and each other one stays
pub record ChangesSeat (old new : List Seat) (session : ℕ) (Changes : Seat → Seat → Type 0) : Type 0 where
  pub size : length new ≡ length old
  pub here : Changes (seat_at old session) (seat_at new session)
  pub others : (other : ℕ) → other ≢ session → seat_at new other ≡ seat_at old other

-- the same last transaction, without sources
abbrev pub ForgetsSources : Seat → Seat → Type 0
ForgetsSources old new = (new.last ≡ old.last) × (new.sources ≡ [])

-- another last transaction, with the same sources
abbrev pub TakesLast : ℕ → Seat → Seat → Type 0
TakesLast number old new = (new.last ≡ number) × (new.sources ≡ old.sources)

-- the same last transaction, with one source more
abbrev pub GainsSource : ℕ → Seat → Seat → Type 0
GainsSource source old new = (new.last ≡ old.last) × ((other : ℕ) → Contains new.sources other ↔ (Contains old.sources other ⊎ (other ≡ source)))
