use Rattle.std.proofs.Common.{refl}
use Rattle.indexed_history.proofs.Ascending.{found_ok, found_err}
use Rattle.cell_writers.proofs.Last.{last_here}
use Rattle.cell_writers.proofs.numbers.last_up_to.Goals as goal

pub before-requires-clause-place : goal.before-requires-clause-place
before-requires-clause-place c =
    let at = found_err c.args.numbers.now c.args.numbers.now c.args.limit c.in-Err.at c.binary_search.result refl c.requires c.binary_search.ensures.position c.in-Err.is in
    record { within = at.0; below = at.1; above = at.2 }

pub returns-in-Ok-clause-some : goal.returns-in-Ok-clause-some
returns-in-Ok-clause-some c =
    let at = found_ok c.args.numbers.now c.args.numbers.now c.args.limit c.in-Ok.field-0 c.binary_search.result refl c.requires c.binary_search.ensures.position c.in-Ok.is in
    last_here c.args.numbers.now c.args.limit c.in-Ok.field-0 at.0 at.1
