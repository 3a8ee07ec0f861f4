use Rattle.history_check.specs.Rows.{AreAtPlacesBelow}
use Rattle.history_check.proofs.rows.places_of.Given as goal

abbrev pub invariant-loop-at : goal.invariant-loop-at
invariant-loop-at l = AreAtPlacesBelow l.cells l.at l.places
