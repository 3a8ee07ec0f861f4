use Rattle.std.proofs.Common.{◌≡◌, ◌≤◌, ◌+◌, ◌-◌, drop, length}
use Rattle.setup_client.specs.Errors.{first_among}
use Rattle.setup_client.proofs.errors.first_error.Given as goal

abbrev pub invariant-loop : goal.invariant-loop
invariant-loop l = record {
  rest : first_among (length l.told - l.counter) l.number (drop l.at l.told) ≡ first_among (length l.told) 1 l.told;
  within : l.at ≤ length l.told;
  few : l.number ≤ l.at + 1;
}
