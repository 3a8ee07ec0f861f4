-- What the events of a record are, where one session was opened in it or none.
use Rattle.std.specs.Prelude.{◌≡◌, ℕ, false, List, [], ◌∷◌, All, Option, Some, None}
use Rattle.history_core.specs.declared.event.Event.{Event}
use Rattle.history_core.specs.declared.event.Event.TheVariants.{Open}
use Rattle.history_core.specs.Events.{session_in, is_open_event}

-- the events begin with the opening of the session; each later one is of that session, and opens none
pub record BeginsWithOpening (session : ℕ) (events : List Event) : Type 0 where
  pub later : List Event
  pub events_are : events ≡ Open session ∷ later
  pub of_it : All (λ e. (session_in e ≡ session) × (is_open_event e ≡ false)) later

-- no event, where no session was opened; else its opening, and then events of that session alone, none of which opens one
abbrev pub AreOfOneSession : Option ℕ → List Event → Type 0
AreOfOneSession None events = events ≡ []
AreOfOneSession (Some session) events = BeginsWithOpening session events
