use Rattle.wide_check.proofs.PieceLemmas.{kept_on}
use Rattle.wide_check.proofs.threads.InThreadsEventWalk.kept_up_to.Goals as goal

pub returns : goal.returns
returns g c =
    kept_on c.args.survey.now.events.now c.args.survey.now.order.now c.args.start _ c.first_unkept_event.result c.requires.kept c.first_unkept_event.ensures
