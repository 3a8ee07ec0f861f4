use Rattle.right_logs.proofs.Texts.{line_first}
use Rattle.right_logs.proofs.lines.next_event.Goals as goal

pub returns-in-Ok : goal.returns-in-Ok
returns-in-Ok c =
    line_first c.args.version c.args.level c.in-Ok.event c.args.text.now c.in-Some.line.now c.in-Some.rest.now c.in-Some.ensures.some c.in-Ok.ensures
