-- What a commit order doesn't keep of a history, and what of it is told first.
use Rattle.std.specs.Prelude.{◌≡◌, ◌≢◌, ◌<◌, ◌≤◌, ◌+◌, ◌⊎◌, ℕ, Some, None, Option, List, slice_get}
use Rattle.std.specs.declared.cmp.Ordering.TheVariants.{Greater}
use Rattle.graph_base.specs.Order.{HoldsEachOnce, place_of}
use Rattle.cell_base.specs.declared.cell.Cell.{Cell}
use Rattle.cell_base.specs.contracts.cell.CellOrd.TheImpl as cell_order
use Rattle.history_core.specs.declared.event.Event.{Event}
use Rattle.history_core.specs.Events.{begun}
use Rattle.history_core.specs.Relations.{Writes, Reads, IsSessionOrdered, IsVisible, Meets}
use Rattle.order_test.specs.declared.unkept.Unkept.{Unkept}
use Rattle.order_test.specs.declared.unkept.Unkept.TheVariants.{Order, Session, Read, Axiom}

-- the order holds each number below the size once, and 0 first
pub record HoldsAll (size : ℕ) (order : List ℕ) : Type 0 where
  pub once : HoldsEachOnce size order
  pub first : slice_get order 0 ≡ Some 0

-- the order has the first before the second
abbrev pub StandsBefore : List ℕ → ℕ → ℕ → Type 0
StandsBefore order first second = place_of order first < place_of order second

-- session order has the earlier before the later, and the order hasn't
pub record IsOutOfSession (events : List Event) (order : List ℕ) (earlier later : ℕ) : Type 0 where
  pub ordered : IsSessionOrdered events earlier later
  pub late : ¬ StandsBefore order earlier later

-- pairs by their first number, and then by their second
abbrev pub IsPairUpTo : ℕ → ℕ → ℕ → ℕ → Type 0
IsPairUpTo a b c d = (a < c) ⊎ ((a ≡ c) × (b ≤ d))

-- the least of these pairs
pub record IsFirstOutOfSession (events : List Event) (order : List ℕ) (earlier later : ℕ) : Type 0 where
  pub is : IsOutOfSession events order earlier later
  pub least : (a b : ℕ) → IsOutOfSession events order a b → IsPairUpTo earlier later a b

abbrev pub KeepsSessions : List Event → List ℕ → Type 0
KeepsSessions events order = (earlier later : ℕ) → ¬ IsOutOfSession events order earlier later

-- by the event at the place the reader reads from the origin, which the order doesn't have before it
pub record IsReadEarly (events : List Event) (order : List ℕ) (place origin reader : ℕ) : Type 0 where
  pub cell : Cell
  pub reads : Reads events reader place cell origin
  pub late : ¬ StandsBefore order origin reader

-- by the event at the place the reader reads the cell from the origin; it sees the rival, which writes the cell too, and which the order doesn't
-- have before the origin
pub record IsUnmet (events : List Event) (order : List ℕ) (place origin rival reader : ℕ) (cell : Cell) : Type 0 where
  pub reads : Reads events reader place cell origin
  pub other : rival ≢ origin
  pub writes : Writes events rival cell
  pub visible : IsVisible events reader place rival
  pub late : ¬ StandsBefore order rival origin

-- the one of the event with the least rival, and then with the least cell
pub record IsFirstUnmet (events : List Event) (order : List ℕ) (place origin rival reader : ℕ) (cell : Cell) : Type 0 where
  pub is : IsUnmet events order place origin rival reader cell
  pub least : (from other by : ℕ) (of : Cell) → IsUnmet events order place from other by of → rival ≤ other
  pub first : (from by : ℕ) (of : Cell) → IsUnmet events order place from rival by of → (cell_order.ghosts).cmp cell of ≢ Greater

-- the order keeps what the event at the place asks
pub record IsKeptAt (events : List Event) (order : List ℕ) (place : ℕ) : Type 0 where
  pub reads : (origin reader : ℕ) → ¬ IsReadEarly events order place origin reader
  pub sights : (origin rival reader : ℕ) (cell : Cell) → ¬ IsUnmet events order place origin rival reader cell

abbrev pub IsKeptBelow : List Event → List ℕ → ℕ → Type 0
IsKeptBelow events order place = (earlier : ℕ) → earlier < place → IsKeptAt events order earlier

-- the event at the place is the first of which the order doesn't keep what it asks, and its reader reads from one that doesn't stand before it
pub record IsFirstReadEarly (events : List Event) (order : List ℕ) (place origin reader : ℕ) : Type 0 where
  pub before : IsKeptBelow events order place
  pub is : IsReadEarly events order place origin reader

-- the same where its reader reads from one that stands before it, and sees a rival
pub record IsFirstAxiom (events : List Event) (order : List ℕ) (place origin rival reader : ℕ) (cell : Cell) : Type 0 where
  pub before : IsKeptBelow events order place
  pub reads : (from by : ℕ) → ¬ IsReadEarly events order place from by
  pub is : IsFirstUnmet events order place origin rival reader cell

-- the order holds each transaction once, the initial one first
abbrev pub HoldsTransactions : List Event → List ℕ → Type 0
HoldsTransactions events order = HoldsAll (begun events + 1) order

-- what the order doesn't keep, told in this order: each transaction once, the session order, and then what each event asks, one after another
abbrev pub IsFirstUnkept : List Event → List ℕ → Unkept → Type 0
IsFirstUnkept events order Order = ¬ HoldsTransactions events order
IsFirstUnkept events order (Session earlier later) = HoldsTransactions events order × IsFirstOutOfSession events order earlier later
IsFirstUnkept events order (Read event origin reader) =
    HoldsTransactions events order × KeepsSessions events order × ((place : ℕ) × (event ≡ place + 1) × IsFirstReadEarly events order place origin reader)
IsFirstUnkept events order (Axiom event origin rival reader cell) =
    HoldsTransactions events order × KeepsSessions events order × ((place : ℕ) × (event ≡ place + 1) × IsFirstAxiom events order place origin rival reader cell)

-- what is found of an order: nothing where it meets the events, and else the first that it doesn't keep
abbrev pub IsFoundOfOrder : List Event → List ℕ → Option Unkept → Type 0
IsFoundOfOrder events order None = Meets events order
IsFoundOfOrder events order (Some unkept) = IsFirstUnkept events order unkept
