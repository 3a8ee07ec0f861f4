use Rattle.std.proofs.Common.{subst}
use Rattle.history_core.specs.Chronicle.{Chronicle}
use Rattle.statement_laws.specs.WholeRows.{ShowsNoUnset}
use Rattle.program_laws.proofs.Simulated.{runs_whole}
use Rattle.program_laws.proofs.rows.simulations_are_whole.Goals as goal

pub returns : goal.returns
returns c = record {
  runs = runs_whole;
  simulations = λ level seed sessions queries history simulation.
      subst (λ (h : Chronicle). ShowsNoUnset h.events) simulation.history_is
      (runs_whole level simulation.clients simulation.picks simulation.last simulation.run);
}
