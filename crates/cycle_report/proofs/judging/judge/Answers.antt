use Rattle.history_check.proofs.Orderly.{orderly_from, owned_from}
use Rattle.cycle_report.proofs.judging.judge.Goals as goal

pub judge_events-requires-clause-orderly : goal.judge_events-requires-clause-orderly
judge_events-requires-clause-orderly c = rw c.as_slice.ensures (orderly_from c.args.trace.now.initial c.args.trace.now.events c.in-Ok.ensures.ok)

pub judge_events-requires-clause-owned : goal.judge_events-requires-clause-owned
judge_events-requires-clause-owned c = rw c.as_slice.ensures (owned_from c.args.trace.now.initial c.args.trace.now.events c.in-Ok.ensures.ok)
