use Rattle.std.proofs.Common.{take}
use Rattle.cycle_report.specs.Levels.{AreStepsOf}
use Rattle.cycle_report.proofs.levels.steps_of.Given as goal

abbrev pub invariant-loop-at : goal.invariant-loop-at
invariant-loop-at l = AreStepsOf l.level l.view.events.now (take l.at l.ring) l.steps.items
