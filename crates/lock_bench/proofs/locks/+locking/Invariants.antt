use Rattle.std.proofs.Common.{◌+◌, ◌*◌}
use Rattle.lock_bench.proofs.locks.+locking.Given as goal

abbrev pub decreases-join+arg3 : goal.decreases-join+arg3
decreases-join+arg3 g l = l.rest * 2 + 1

abbrev pub decreases-in_many : goal.decreases-in_many
decreases-in_many g l = l.further * 2
