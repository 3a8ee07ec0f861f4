use Rattle.cycle_report.specs.Turns.{IsPassed}
use Rattle.cycle_report.proofs.sorting.blocked_turn.Given as goal

abbrev pub invariant-loop-turn : goal.invariant-loop-turn
invariant-loop-turn l = IsPassed l.edges l.marks l._number l.turn

abbrev pub decreases-loop-turn : goal.decreases-loop-turn
decreases-loop-turn l = l.turn
