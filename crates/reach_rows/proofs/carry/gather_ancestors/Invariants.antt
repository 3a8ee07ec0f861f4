use Rattle.std.proofs.Common.{◌-◌, length}
use Rattle.reach_rows.specs.Rows.{HasPair}
use Rattle.reach_rows.proofs.Carrying.{IsGathering}
use Rattle.reach_rows.proofs.carry.gather_ancestors.Given as goal

abbrev pub invariant-loop-done : goal.invariant-loop-done
invariant-loop-done l = IsGathering l.rows (HasPair l.rows) l.members (length l.members - l.done) l.initial.row l.row
