-- What the loop of `number` keeps.
use Rattle.std.proofs.Common.{◌≡◌, ◌<◌, take}
use Rattle.std.specs.Prelude.{All}
use Rattle.command_line.specs.Numbers.{IsDigit, number_of}
use Rattle.command_line.proofs.numbers.number.Given as goal

abbrev pub invariant-loop-digit : goal.invariant-loop-digit
invariant-loop-digit l = record {
  value : l.number ≡ number_of (take l.digit-index l.part);
  each : All IsDigit (take l.digit-index l.part);
  bounded : l.number < 18446744073709551616;
}
