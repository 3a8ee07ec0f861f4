use Rattle.std.proofs.Common.{inl}
use Rattle.check_command.proofs.judge_verdict.history_judged.Goals as goal

pub returns : goal.returns
returns c = inl (c.args.judgement.now, c.status_of-status.ensures, c.in_ok-line.ensures, c.requires)
