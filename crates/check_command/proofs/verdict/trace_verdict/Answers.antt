use Rattle.check_command.proofs.Many.{few_events}
use Rattle.check_command.proofs.verdict.trace_verdict.Goals as goal

pub check_by-requires : goal.check_by-requires
check_by-requires g c = record {
  few = few_events c.requires.log.0 c.args.trace.now c.args.bytes.now c.requires.log.1 c.requires.few;
}
