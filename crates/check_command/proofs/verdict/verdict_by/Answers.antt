use Rattle.check_command.proofs.verdict.verdict_by.Goals as goal

pub right_verdict-requires : goal.right_verdict-requires
right_verdict-requires c = record {
  few = c.requires.few;
  version = c.requires.log.0;
  trace = c.args.trace.now;
  log = c.requires.log.1;
  right = rw c.in-Ok.is at c.requires.right;
}

pub breach_verdict-requires : goal.breach_verdict-requires
breach_verdict-requires c = record {
  few = c.requires.few;
  version = c.requires.log.0;
  trace = c.args.trace.now;
  log = c.requires.log.1;
  first = rw c.in-Err-Breach.field-0-is at (rw c.in-Err-Breach.is at c.requires.breach);
}
