use Rattle.std.proofs.Common.{◌≡◌, true, drop}
use Rattle.setup_client.specs.Errors.{field_from}
use Rattle.setup_client.proofs.errors.field.Given as goal

abbrev pub invariant-loop-at : goal.invariant-loop-at
invariant-loop-at l = field_from l.begins l.letter (drop l.at l.body) ≡ field_from true l.letter l.body
