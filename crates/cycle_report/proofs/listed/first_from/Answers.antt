use Rattle.std.proofs.Common.{refl, arith}
use Rattle.indexed_history.proofs.Ascending.{found_ok, found_err, increasing_less}
use Rattle.cycle_report.proofs.listed.first_from.Goals as goal

pub returns-in-Ok : goal.returns-in-Ok
returns-in-Ok c = λ k below.
    let at = found_ok c.args.numbers.now c.args.numbers.now c.args.limit c.in-Ok.at c.binary_search.result refl c.requires c.binary_search.ensures.position c.in-Ok.is in
    let within = at.0 in
    let value = at.1 in
    let up = increasing_less c.args.numbers.now c.requires k c.in-Ok.at below within in
    omega arith

pub returns-in-Err : goal.returns-in-Err
returns-in-Err c = λ k below.
    let at = found_err c.args.numbers.now c.args.numbers.now c.args.limit c.in-Err.at c.binary_search.result refl c.requires c.binary_search.ensures.position c.in-Err.is in
    let less = at.1 k below in
    omega arith
