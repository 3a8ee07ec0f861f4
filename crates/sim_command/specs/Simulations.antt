-- Simulations: runs of clients that are made of a seed, in an order that is drawn from it.
use Rattle.std.specs.List.{remove}
use Rattle.std.specs.Prelude.{◌≡◌, ◌<◌, ◌≤◌, ◌+◌, ◌%◌, ◌⊎◌, ℕ, zero, suc, List, [], ◌∷◌, ◌++◌, All, Option, Some, length, slice_get, take, drop, false}
use Rattle.cell_base.specs.declared.level.Level.{Level}
use Rattle.rand_chacha.specs.ChaCha.{ChaCha}
use Rattle.choice_stream.specs.Seeds.{Draws, stream_front}
use Rattle.history_core.specs.Chronicle.{Chronicle}
use Rattle.block_machine.specs.Script.{has_short}
use Rattle.link_traits.specs.Host.{Hosted}
use Rattle.log_file.specs.Logging.{LogsAndPrints}
use Rattle.history_summary.specs.Line.{IsSummary}
use Rattle.session_hall.specs.declared.client.Client.{Client}
use Rattle.session_hall.specs.declared.client.Stepped.{Stepped}
use Rattle.session_hall.specs.declared.client.Stepped.TheVariants.{Called, Ended}
use Rattle.sim_clients.specs.Clients.{AreClients}
use Rattle.sim_command.specs.Runs.{Moment, Pick, Runs, at_first}

-- all steps are of this client, which goes on
abbrev pub GoesOn : ℕ → List Pick → Type 0
GoesOn client picks = All (λ pick. pick ≡ record { client = client; stepped = Called }) picks

-- all steps are of this client, and the last one is its end
pub record GoesToEnd (client : ℕ) (picks : List Pick) : Type 0 where
  pub before : List Pick
  pub is : picks ≡ before ++ record { client = client; stepped = Ended } ∷ []
  pub going : GoesOn client before

-- those that go on after a step of the one at a place
abbrev pub going_after : Stepped → ℕ → List ℕ → List ℕ
going_after Called at going = going
going_after Ended at going = remove going at

-- Each step is of the client that the next word picks of those that go on. In the end these are left, and this generator.
abbrev pub DrawsTo : ChaCha → List ℕ → List Pick → ChaCha → List ℕ → Type 0
DrawsTo generator going [] after left = (generator ≡ after) × (going ≡ left)
DrawsTo generator going (pick ∷ picks) after left =
    (word : ℕ) × (rest : ChaCha) × Draws generator word rest × (slice_get going (word % length going) ≡ Some pick.client)
    × DrawsTo rest (going_after pick.stepped (word % length going) going) picks after left

-- whoever goes on after them
pub record AreDrawnFirst (generator : ChaCha) (going : List ℕ) (picks : List Pick) : Type 0 where
  pub rest : ChaCha
  pub left : List ℕ
  pub draws : DrawsTo generator going picks rest left

-- until none goes on
pub record AreDrawn (generator : ChaCha) (going : List ℕ) (picks : List Pick) : Type 0 where
  pub rest : ChaCha
  pub draws : DrawsTo generator going picks rest []

-- the numbers from this one on, so many
abbrev pub numbers_from : ℕ → ℕ → List ℕ
numbers_from first zero = []
numbers_from first (suc many) = first ∷ numbers_from (suc first) many

-- First the client that makes the table goes to its end, and then the others, so many, as stream 65 of the seed says, until all have ended.
pub record IsSchedule (seed sessions : ℕ) (picks : List Pick) : Type 0 where
  pub makes : List Pick
  pub asks : List Pick
  pub is : picks ≡ makes ++ asks
  pub maker : GoesToEnd 0 makes
  pub drawn : AreDrawn (stream_front seed 65) (numbers_from 1 sessions) asks

-- The clients of the seed were served from an empty history on, one step of one client after another in the order of the seed, until all had
-- ended. Memory ran out in none of their sessions. This history is what came of it.
pub record IsSimulation (level : Level) (seed sessions queries : ℕ) (history : Chronicle) : Type 0 where
  pub clients : List Client
  pub are : AreClients seed sessions queries clients
  pub picks : List Pick
  pub last : Moment
  pub schedule : IsSchedule seed sessions picks
  pub run : Runs level clients (at_first level) picks last
  pub at_rest : (k : ℕ) → k < length clients → has_short (last.accounts k).entries ≡ false
  pub history_is : last.history ≡ history

-- a front of such a schedule: the client that makes the table goes on, or it has gone to its end and each other step is drawn
abbrev pub IsFront : ℕ → ℕ → List Pick → Type 0
IsFront seed sessions picks =
    GoesOn 0 picks
    ⊎ ((makes : List Pick) × (asks : List Pick) × (picks ≡ makes ++ asks) × GoesToEnd 0 makes × AreDrawnFirst (stream_front seed 65) (numbers_from 1 sessions) asks)

-- how many steps are made at most
abbrev pub most_steps : ℕ
most_steps = 4294967295

-- so many steps were made of the clients of the seed, in the order of the seed, as are made at most
pub record IsCutOff (level : Level) (seed sessions queries : ℕ) : Type 0 where
  pub clients : List Client
  pub are : AreClients seed sessions queries clients
  pub picks : List Pick
  pub last : Moment
  pub front : IsFront seed sessions picks
  pub run : Runs level clients (at_first level) picks last
  pub many : length picks ≡ most_steps

-- the log of a simulation was written, where one was asked for, or not, for a fault that the status tells, and its summary was printed
pub record Told (level : Level) (seed sessions queries : ℕ) (log : Option (List ℕ)) (before : Hosted) (code : ℕ) (after : Hosted) : Type 0 where
  pub history : Chronicle
  pub simulation : IsSimulation level seed sessions queries history
  pub line : List ℕ
  pub summary : IsSummary level seed history.events line
  pub told : LogsAndPrints log history line before code after

-- `sim LEVEL SEED SESSIONS QUERIES`, with the path of a log or without: memory ran out, in the simulation or in one of its sessions, and nothing
-- was printed; the simulation was cut off; or its log was written, or not, and its summary printed.
abbrev pub Simulates : Level → ℕ → ℕ → ℕ → Option (List ℕ) → Hosted → ℕ → Hosted → Type 0
Simulates level seed sessions queries log before code after =
    ((code ≡ 5) × (after ≡ before))
    ⊎ (((code ≡ 1) × (after ≡ before) × IsCutOff level seed sessions queries)
    ⊎ Told level seed sessions queries log before code after)
