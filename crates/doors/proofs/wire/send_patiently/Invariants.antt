use Rattle.std.proofs.Common.{◌≤◌, ◌+◌, ◌-◌, length}
use Rattle.doors.proofs.wire.send_patiently.Given as goal

abbrev pub invariant-loop-sent : goal.invariant-loop-sent
invariant-loop-sent l = (l.sent ≤ length l.bytes) × (l.retries ≤ 64)

abbrev pub decreases-loop-sent : goal.decreases-loop-sent
decreases-loop-sent l = (length l.bytes - l.sent) + (64 - l.retries)
