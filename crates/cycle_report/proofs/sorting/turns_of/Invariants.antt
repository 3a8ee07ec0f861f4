use Rattle.cycle_report.specs.Turns.{AreTurns, AreEarlier}
use Rattle.cycle_report.proofs.sorting.turns_of.Given as goal

abbrev pub invariant-loop-at : goal.invariant-loop-at
invariant-loop-at l = record {
  turns : AreTurns l.edges l.size l.at l.turns.items;
  earlier : AreEarlier l.edges l.at l.earlier.items;
}
