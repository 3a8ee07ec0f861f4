use Rattle.std.proofs.Common.{◌≡◌}
use Rattle.sim_command.specs.Simulations.{numbers_from}
use Rattle.sim_command.proofs.command.numbers_to.Given as goal

abbrev pub invariant-loop-number : goal.invariant-loop-number
invariant-loop-number l = record { items : l.numbers.items ≡ numbers_from 1 l.number }
