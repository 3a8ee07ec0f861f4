use Rattle.reach_rows.specs.Rows.{CarriesUpTo}
use Rattle.reach_rows.proofs.carry.carry_each.Given as goal

abbrev pub invariant-loop-number : goal.invariant-loop-number
invariant-loop-number l = CarriesUpTo l.number l.target l.gained l.initial.rows l.rows
