-- What the command `sim` answers where no fault is counted.
use Rattle.std.specs.Prelude.{◌≡◌, ◌≤◌, ◌⊎◌, ℕ, List, [], ◌∷◌, ◌++◌, Option, None, Some}
use Rattle.cell_base.specs.declared.level.Level.{Level}
use Rattle.link_traits.specs.Faults.{Rose}
use Rattle.link_traits.specs.Traffic.{Sight}
use Rattle.link_traits.specs.Host.{Hosted, make_file_called, new_file_returned}
use Rattle.history_core.specs.Chronicle.{Chronicle}
use Rattle.history_summary.specs.Line.{IsSummary}
use Rattle.log_file.specs.Logging.{Logs}
use Rattle.doors.specs.Network.{Networked}
use Rattle.sim_command.specs.Simulations.{IsSimulation, Simulates}
use Rattle.command_line.specs.Commands.{IsSim}
use Rattle.monkey_server.specs.Program.{Does}
use Rattle.program_laws.specs.Checking.{HasPrinted, PrintsUndisturbed}

-- The host didn't count that it made no file; the file that it made, if it did, counted no fault; and the output counted none.
pub record SimsUndisturbed (before after : Hosted) : Type 0 where
  pub makes : ¬ (Rose before.faults.make_file after.faults.make_file)
  pub writes : (path : List ℕ) (given back : Sight) → after.calls ≡ before.calls ++ make_file_called path (Some given) ∷ []
      → after.back ≡ before.back ++ new_file_returned back ∷ [] → ¬ (Rose given.write_faults back.write_faults)
  pub prints : PrintsUndisturbed before after

-- All clients of the seed were served to their ends over one history. Its log was written whole, where one was asked for, and then its line was
-- printed whole.
pub record SimulatesWhole (level : Level) (seed sessions queries : ℕ) (log : Option (List ℕ)) (before after : Hosted) : Type 0 where
  pub history : Chronicle
  pub simulation : IsSimulation level seed sessions queries history
  pub line : List ℕ
  pub summary : IsSummary level seed history.events line
  pub between : Hosted
  pub logged : Logs log history None before between
  pub printed : HasPrinted line before after

-- `sim LEVEL SEED SESSIONS QUERIES` where no fault is counted: the simulation came to its end and was told whole, with status 0; or memory ran out
abbrev pub SimulationsAreComplete : Type 0
SimulationsAreComplete =
    (level : Level) (seed sessions queries : ℕ) (log : Option (List ℕ)) (before : Hosted) (code : ℕ) (after : Hosted)
    → sessions ≤ 64 → queries ≤ 200 → Simulates level seed sessions queries log before code after → SimsUndisturbed before after
    → ((code ≡ 0) × SimulatesWhole level seed sessions queries log before after) ⊎ (code ≡ 5)

-- so does the program with these words
abbrev pub SimRunsAreComplete : Type 0
SimRunsAreComplete =
    (args : List (List ℕ)) (level : Level) (seed sessions queries : ℕ) (log : Option (List ℕ)) (network left : Networked) (before : Hosted)
    (code : ℕ) (after : Hosted) → IsSim args level seed sessions queries log → Does args network before code left after
    → SimsUndisturbed before after → ((code ≡ 0) × SimulatesWhole level seed sessions queries log before after) ⊎ (code ≡ 5)
