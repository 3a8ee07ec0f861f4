use Rattle.check_command.proofs.Many.{few_events}
use Rattle.check_command.proofs.judge_verdict.trace_judged.Goals as goal

pub judge-requires : goal.judge-requires
judge-requires c = record {
  few = few_events c.requires.log.0 c.args.trace.now c.args.bytes.now c.requires.log.1 c.requires.few;
}
