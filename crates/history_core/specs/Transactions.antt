-- The transactions of a history, which is a list of events. The k-th Begin starts transaction k; 0 is the initial one.
use Rattle.std.specs.Prelude.{◌≡◌, ◌<◌, ◌+◌, ℕ, false, Some, List, length, slice_get, take}
use Rattle.cell_base.specs.declared.level.Level.{Level}
use Rattle.history_core.specs.declared.event.Event.{Event}
use Rattle.history_core.specs.declared.event.Event.TheVariants.{Begin, Commit}
use Rattle.history_core.specs.Events.{session_in, is_end, begun}

-- transaction k starts at the place
pub record IsStart (events : List Event) (number session place : ℕ) : Type 0 where
  pub level : Level
  pub is : slice_get events place ≡ Some (Begin session level)
  pub counts : number ≡ begun (take place events) + 1

-- transaction k runs at the level, which its Begin says
pub record RunsAt (events : List Event) (number : ℕ) (level : Level) : Type 0 where
  pub session : ℕ
  pub place : ℕ
  pub is : slice_get events place ≡ Some (Begin session level)
  pub counts : number ≡ begun (take place events) + 1

-- the session ends no transaction strictly between the places
abbrev pub IsRunning : List Event → ℕ → ℕ → ℕ → Type 0
IsRunning events session low high =
    (q : ℕ) (e : Event) → low < q → q < high → slice_get events q ≡ Some e → session_in e ≡ session → is_end e ≡ false

-- the event at the place is one of the transaction
pub record IsOf (events : List Event) (number place : ℕ) (event : Event) : Type 0 where
  pub start : ℕ
  pub starts : IsStart events number (session_in event) start
  pub after : start < place
  pub is : slice_get events place ≡ Some event
  pub running : IsRunning events (session_in event) start place

-- the transaction has started in the session and isn't ended
pub record IsPending (events : List Event) (number session : ℕ) : Type 0 where
  pub start : ℕ
  pub starts : IsStart events number session start
  pub running : IsRunning events session start (length events)

pub record IsCommitted (events : List Event) (number : ℕ) : Type 0 where
  pub place : ℕ
  pub session : ℕ
  pub commit : IsOf events number place (Commit session)

abbrev pub HasPending : List Event → ℕ → Type 0
HasPending events session = (number : ℕ) × IsPending events number session
