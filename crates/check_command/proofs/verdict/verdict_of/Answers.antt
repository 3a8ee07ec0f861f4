use Rattle.check_command.proofs.Judging.{right_log}
use Rattle.check_command.proofs.verdict.verdict_of.Goals as goal

pub right_verdict-requires : goal.right_verdict-requires
right_verdict-requires g c = right_log c.args.bytes.now (rw c.in-Ok-Right.field-0-is at c.in-Ok-Right.ensures)

pub judged_verdict-verdict-requires : goal.judged_verdict-verdict-requires
judged_verdict-verdict-requires g c = rw c.in-Ok-Judged.field-0-is at c.in-Ok-Judged.ensures
