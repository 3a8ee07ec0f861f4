use Rattle.std.proofs.Common.{◌≡◌, ◌<◌, ℕ, List, false}
use Rattle.cell_base.specs.declared.level.Level.{Level}
use Rattle.block_machine.specs.Script.{has_short}
use Rattle.session_hall.specs.declared.client.Client.{Client}
use Rattle.sim_command.specs.Runs.{Moment}
use Rattle.sim_command.specs.Playing.{StandsAt}
use Rattle.sim_command.proofs.command.are_at_rest.Given as goal

abbrev pub invariant-loop-client : goal.invariant-loop-client
invariant-loop-client l = record {
  rest : (level : Level) (clients : List Client) (moment : Moment) → StandsAt level clients moment l.hall → (k : ℕ) → k < l.client →
      has_short (moment.accounts k).entries ≡ false;
}
