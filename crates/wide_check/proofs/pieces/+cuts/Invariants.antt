use Rattle.std.proofs.Common.{◌+◌, ◌-◌, ◌*◌}
use Rattle.wide_check.proofs.pieces.+cuts.Given as goal

abbrev pub decreases-first_unkept_event : goal.decreases-first_unkept_event
decreases-first_unkept_event g l = 2 * (l.to - l.from) + 1

abbrev pub decreases-late : goal.decreases-late
decreases-late g l = 2 * (l.to - l.middle) + 2
