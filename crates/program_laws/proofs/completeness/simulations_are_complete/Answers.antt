use Rattle.program_laws.proofs.Simulating.{sims_complete, sim_runs_complete}
use Rattle.program_laws.proofs.completeness.simulations_are_complete.Goals as goal

pub returns : goal.returns
returns c = record { sim = sims_complete; program = sim_runs_complete }
