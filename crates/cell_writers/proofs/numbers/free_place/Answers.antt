use Rattle.std.proofs.Common.{arith, refl}
use Rattle.indexed_history.proofs.Ascending.{found_err}
use Rattle.cell_writers.proofs.numbers.free_place.Goals as goal

pub returns-then-is_above_all-clause-some : goal.returns-then-is_above_all-clause-some
returns-then-is_above_all-clause-some c = record {
  within = omega arith;
  below = c.is_above_all.ensures c.if-is_above_all.true;
  above = λ k from within. absurd (omega arith);
}

pub returns-in-Err-clause-some : goal.returns-in-Err-clause-some
returns-in-Err-clause-some c =
    let at = found_err c.args.numbers.now c.args.numbers.now c.args.number c.in-Err.at c.binary_search.result refl c.requires c.binary_search.ensures.position c.in-Err.is in
    record { within = at.0; below = at.1; above = at.2 }
