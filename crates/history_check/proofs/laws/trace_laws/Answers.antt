use Rattle.history_check.proofs.TraceLaws.{trace_unbroken, trace_breach_one, trace_prefixes}
use Rattle.history_check.proofs.laws.trace_laws.Goals as goal

pub returns : goal.returns
returns c = record { unbroken = trace_unbroken; one = trace_breach_one; prefixes = trace_prefixes }
