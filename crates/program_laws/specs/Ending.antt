-- No simulation is cut off.
use Rattle.std.specs.Prelude.{◌≤◌, ℕ}
use Rattle.cell_base.specs.declared.level.Level.{Level}
use Rattle.sim_command.specs.Simulations.{IsCutOff}

abbrev pub SimulationsEnd : Type 0
SimulationsEnd = (level : Level) (seed sessions queries : ℕ) → sessions ≤ 64 → queries ≤ 200 → ¬ (IsCutOff level seed sessions queries)
