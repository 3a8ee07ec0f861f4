-- When a hall stands for one history and an account of each client, and what a step adds.
use Rattle.std.specs.Prelude.{◌≡◌, ◌==◌, ◌≤◌, ◌<◌, ℕ, List, [], ◌∷◌, if◌then◌else◌, length, slice_get, Contains, All, Option, Some, None, Result, Ok, Err}
use Rattle.cell_base.specs.declared.level.Level.{Level}
use Rattle.cell_base.specs.declared.memory.Memory.{Memory}
use Rattle.history_core.specs.declared.event.Event.{Event}
use Rattle.history_core.specs.Events.{session_in}
use Rattle.history_core.specs.Chronicle.{Chronicle, IsLegalChronicle}
use Rattle.block_machine.specs.Script.{Entry, unsent}
use Rattle.block_machine.specs.declared.end.End.{End}
use Rattle.block_machine.specs.declared.end.End.TheVariants as ends
use Rattle.session_core.specs.Told.{opened_in}
use Rattle.session_core.specs.Sessions.{wanted}
use Rattle.session_core.specs.Serve.{Account}
use Rattle.valid_writes.specs.Beginnings.{empty_history}
use Rattle.session_hall.specs.declared.client.Client.{Client}
use Rattle.session_hall.specs.declared.client.Stepped.{Stepped}
use Rattle.session_hall.specs.declared.client.Stepped.TheVariants.{Called, Ended}
use Rattle.session_hall.specs.declared.hall.Hall.{Hall}
use Rattle.session_hall.specs.declared.seat.Seat.{Seat}
use Rattle.session_hall.specs.Accounts.{Grew, nothing}
use Rattle.session_hall.specs.Clients.{HasEnd, IsServed}
use Rattle.session_hall.specs.Seats.{Attends, IsResting, ShowsEnd}

-- the accounts with that of one client made this one
abbrev pub with_account : (ℕ → Account) → ℕ → Account → ℕ → Account
with_account accounts client account k = if k == client then account else accounts k

-- One client's seat stands for its account, and shows its end.
pub record IsSeated (level : Level) (history : Chronicle) (client : Client) (account : Account) (seat : Seat) : Type 0 where
  pub attends : Attends level history client account seat
  pub shows : ShowsEnd seat.end (wanted seat.session)
  pub resting : seat.end ≡ None → IsResting seat
  pub served : IsServed level history client seat.end account

-- what holds of two lists, item by item
abbrev pub Along : {X Y : Type 0} → (X → Y → Type 0) → List X → List Y → Type 0
Along P [] [] = Unit {0}
Along P (x ∷ xs) (y ∷ ys) = P x y × Along P xs ys
Along P [] (y ∷ ys) = ⊥
Along P (x ∷ xs) [] = ⊥

-- the seats of clients of which nothing was heard yet, in order
abbrev pub AreSeated : Level → List Client → List Seat → Type 0
AreSeated level clients seats = Along (λ client seat. IsSeated level (empty_history level) client nothing seat) clients seats

-- A hall at a level stands for one legal history and an account of each client. Each client was served so far. Each event is of the session of
-- one client, and no two clients share a session.
pub record StandsFor (level : Level) (history : Chronicle) (clients : List Client) (accounts : ℕ → Account) (hall : Hall) : Type 0 where
  pub store : hall.store ≡ Some history
  pub level_is : history.level ≡ level
  pub initial : history.initial ≡ []
  pub legal : IsLegalChronicle history
  pub count : length hall.seats.items ≡ length clients
  pub each : (k : ℕ) (client : Client) (seat : Seat) → slice_get clients k ≡ Some client → slice_get hall.seats.items k ≡ Some seat →
      IsSeated level history client (accounts k) seat
  pub owned : (e : Event) → Contains history.events e → (k : ℕ) × (k < length clients) × (opened_in (accounts k).entries ≡ Some (session_in e))
  pub apart : (j k s : ℕ) → j < length clients → k < length clients → opened_in (accounts j).entries ≡ Some s →
      opened_in (accounts k).entries ≡ Some s → j ≡ k

-- the hall stands for something
abbrev pub IsHall : Hall → Type 0
IsHall hall = (level : Level) × (history : Chronicle) × (clients : List Client) × (accounts : ℕ → Account) × StandsFor level history clients accounts hall

-- how many clients a hall has
abbrev pub clients_of : Hall → ℕ
clients_of hall = length hall.seats.items

-- the client has ended
abbrev pub HasEnded : Hall → ℕ → Type 0
HasEnded hall client = (seat : Seat) × (end : End) × (slice_get hall.seats.items client ≡ Some seat) × (seat.end ≡ Some end)

-- no reply was left unsent
abbrev pub IsSent : Entry → Type 0
IsSent (unsent n) = ⊥
IsSent _ = Unit {0}

-- What a step's answer says of the calls that it made, of the entries that it added and of the client's end: a step that goes on made one call,
-- one that ends made one at most. A lack of memory leaves a reply unsent, and the session has then made the calls that it owed its book besides.
abbrev pub IsAnswer : Result Stepped Memory → ℕ → List Entry → Option End → Type 0
IsAnswer (Ok Called) many added end = (many ≡ 1) × All IsSent added × (end ≡ None)
IsAnswer (Ok Ended) many added end = (many ≤ 1) × All IsSent added × HasEnd end
IsAnswer (Err e) many added end = ((n : ℕ) × Contains added (unsent n)) × (end ≡ Some ends.Memory)

-- A client's step: its account grew, and the other accounts stay.
pub record IsStep (clients : List Client) (accounts : ℕ → Account) (history : Chronicle) (client : ℕ) (result : Result Stepped Memory)
    (level : Level) (hall : Hall) : Type 0 where
  pub many : ℕ
  pub after : Account
  pub now : Chronicle
  pub grew : Grew (accounts client) history many after now
  pub stands : StandsFor level now clients (with_account accounts client after) hall
  pub seat : Seat
  pub seated : slice_get hall.seats.items client ≡ Some seat
  pub answer : IsAnswer result many grew.added seat.end
