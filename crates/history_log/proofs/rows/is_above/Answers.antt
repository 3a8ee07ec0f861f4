use Rattle.std.proofs.Common.{sym}
use Rattle.history_log.proofs.RowLemmas.{above_last}
use Rattle.history_log.proofs.rows.is_above.Goals as goal

pub returns-in-Some : goal.returns-in-Some
returns-in-Some c =
    let both = above_last c.args.initial.now c.in-Some.last.now c.args.cell.now c.requires.ascending (sym c.in-Some.ensures.value) in
    ((λ holds. both.0 (c.is_below.ensures.0 holds)), (λ is. c.is_below.ensures.1 (both.1 is)))
