use Rattle.right_logs.proofs.Texts.{said_lines_by}
use Rattle.right_logs.proofs.text.glimpse_of_lines.Goals as goal

pub returns-in-Ok : goal.returns-in-Ok
returns-in-Ok c =
    said_lines_by c.args.version c.args.level c.args.text.now c.in-Some.body.now c.in-Some.last.now c.in-Ok.order c.as_slice.result.now c.glimpse_of_events.result c.in-Some.ensures
    c.in-Ok.ensures c.as_slice.ensures c.glimpse_of_events.ensures
