-- Runs of many clients over one history, step by step.
use Rattle.std.specs.Prelude.{◌≡◌, ◌≢◌, ◌<◌, ℕ, List, [], ◌∷◌, Option, Some, length, slice_get, Ok}
use Rattle.cell_base.specs.declared.level.Level.{Level}
use Rattle.history_core.specs.Chronicle.{Chronicle, IsLegalChronicle}
use Rattle.block_machine.specs.declared.end.End.{End}
use Rattle.session_core.specs.Serve.{Account}
use Rattle.session_hall.specs.declared.client.Client.{Client}
use Rattle.session_hall.specs.declared.client.Stepped.{Stepped}
use Rattle.session_hall.specs.Accounts.{nothing, Grew}
use Rattle.session_hall.specs.Clients.{IsServed}
use Rattle.session_hall.specs.Halls.{IsAnswer}
use Rattle.valid_writes.specs.Beginnings.{empty_history}

-- what stands at a moment: the one history, and what went to and fro with each client
pub record Moment : Type 0 where
  pub history : Chronicle
  pub accounts : ℕ → Account

-- nothing was heard of any client yet
abbrev pub at_first : Level → Moment
at_first level = record { history = empty_history level; accounts = λ k. nothing }

-- whose step it was, and how it ended
pub record Pick : Type 0 where
  pub client : ℕ
  pub stepped : Stepped

-- One client went on by one call of its book, or to its end. Its account grew, the others stayed, and the history is legal. It was served so far.
pub record Moves (level : Level) (clients : List Client) (pick : Pick) (before after : Moment) : Type 0 where
  pub client : Client
  pub is : slice_get clients pick.client ≡ Some client
  pub many : ℕ
  pub grew : Grew (before.accounts pick.client) before.history many (after.accounts pick.client) after.history
  pub others : (k : ℕ) → k ≢ pick.client → after.accounts k ≡ before.accounts k
  pub legal : IsLegalChronicle after.history
  pub end : Option End
  pub served : IsServed level after.history client end (after.accounts pick.client)
  pub answer : IsAnswer (Ok pick.stepped) many grew.added end

-- steps one after another
abbrev pub Runs : Level → List Client → Moment → List Pick → Moment → Type 0
Runs level clients before [] after = before ≡ after
Runs level clients before (pick ∷ picks) after =
    (between : Moment) × Moves level clients pick before between × Runs level clients between picks after
