use Rattle.std.proofs.Common.{◌-◌, length}
use Rattle.reach_rows.specs.Rows.{IsUpTo}
use Rattle.reach_rows.proofs.Carrying.{IsGathering}
use Rattle.reach_rows.proofs.carry.gather.Given as goal

abbrev pub invariant-loop-done : goal.invariant-loop-done
invariant-loop-done l = IsGathering l.rows (IsUpTo l.rows) l.members (length l.members - l.done) l.initial.row l.row
