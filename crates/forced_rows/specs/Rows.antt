-- Rows that stand for a history: its forced pairs and its causal past, each as a closure, and the seats of its sessions.
use Rattle.std.specs.Prelude.{◌≡◌, ◌<◌, ◌+◌, ◌↔◌, ℕ, List, [], ◌∷◌, ◌++◌, length}
use Rattle.graph_base.specs.declared.Edge.{Edge}
use Rattle.reach_rows.specs.Ancestry.{Ancestry}
use Rattle.graph_base.specs.Walk.{IsInRange, Reaches}
use Rattle.graph_base.specs.Chain.{Chained}
use Rattle.cell_base.specs.declared.cell.Cell.{Cell}
use Rattle.cell_base.specs.declared.level.Level.{Level}
use Rattle.cell_base.specs.declared.value.Value.{Value}
use Rattle.history_core.specs.declared.event.Event.{Event}
use Rattle.history_core.specs.declared.event.Event.TheVariants.{Begin}
use Rattle.history_core.specs.Events.{begun}
use Rattle.history_core.specs.Relations.{PrecedesCausally}
use Rattle.history_core.specs.Legal.{Follows, IsFormed}
use Rattle.history_core.specs.Forced.{IsForced}
use Rattle.forced_rows.specs.declared.rows.ForcedRows.{ForcedRows}
use Rattle.forced_rows.specs.Seats.{seat_at, IsSeatOf}

-- the closures are those of the forced pairs and of what precedes what, and each session has its seat
pub record StandFor (events : List Event) (rows : ForcedRows) : Type 0 where
  pub forced : (a b : ℕ) → Reaches rows.reach.pairs a b ↔ Chained (IsForced events) a b
  pub past : (a b : ℕ) → Reaches rows.past.pairs a b ↔ PrecedesCausally events a b
  pub seats : (session : ℕ) → IsSeatOf events session (seat_at rows.seats.items session)

-- the rows have one number for each transaction, the initial one among them
pub record AreRowsOf (events : List Event) (rows : ForcedRows) : Type 0 where
  pub size : rows.reach.size ≡ begun events + 1
  pub past_size : rows.past.size ≡ begun events + 1
  pub stand : StandFor events rows

-- the rows have one number more, which no pair names, and a seat for the session, without sources: the session may begin the next transaction
pub record HaveRoom (events : List Event) (session : ℕ) (rows : ForcedRows) : Type 0 where
  pub size : rows.reach.size ≡ begun events + 2
  pub past_size : rows.past.size ≡ begun events + 2
  pub unnamed : IsInRange (begun events + 1) rows.reach.pairs
  pub past_unnamed : IsInRange (begun events + 1) rows.past.pairs
  pub seated : session < length rows.seats.items
  pub unread : (seat_at rows.seats.items session).sources ≡ []
  pub stand : StandFor events rows

-- the events are those of a history, for whose next transaction the rows have room, and the Begin of that transaction
pub record AddsBegin (initial : List (Cell × Value)) (events : List Event) (session : ℕ) (rows : ForcedRows) : Type 0 where
  pub before : List Event
  pub level : Level
  pub is : events ≡ before ++ Begin session level ∷ []
  pub formed : IsFormed initial before
  pub follows : Follows initial before (Begin session level)
  pub room : HaveRoom before session rows

-- one number more, which no pair names
pub record Grows (old new : Ancestry) : Type 0 where
  pub size : new.size ≡ old.size + 1
  pub pairs : new.pairs ≡ old.pairs
  pub unnamed : IsInRange old.size old.pairs

-- from the initial transaction and the last one of the session to the one that has begun
abbrev pub begin_edges : ℕ → ℕ → List Edge
begin_edges last number = record { before = 0; after = number } ∷ record { before = last; after = number } ∷ []
