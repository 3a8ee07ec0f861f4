use Rattle.wide_check.proofs.PieceLemmas.{found_late}
use Rattle.wide_check.proofs.pieces.+cuts.Goals as goal

pub returns : goal.returns
returns g t c =
    found_late c.args.survey.now.events.now c.args.survey.now.order.now c.args.from _ c.args.to c.join-first.result.0 c.join-first.result.1 c.if-first-middle.false
    c.join-first.ensures.first c.join-first.ensures.second
