use Rattle.check_command.proofs.judge_verdict.judged_by.Goals as goal

pub history_judged-requires : goal.history_judged-requires
history_judged-requires c = record {
  few = c.requires.few;
  version = c.requires.log.0;
  trace = c.args.trace.now;
  log = c.requires.log.1;
  right = rw c.in-Ok.is at c.requires.right;
  judged = rw c.in-Ok.is at c.requires.judged;
}

pub breach_judged-requires : goal.breach_judged-requires
breach_judged-requires c = record {
  few = c.requires.few;
  version = c.requires.log.0;
  trace = c.args.trace.now;
  log = c.requires.log.1;
  first = rw c.in-Err-Breach.field-0-is at (rw c.in-Err-Breach.is at c.requires.breach);
}
