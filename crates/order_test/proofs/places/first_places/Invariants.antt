use Rattle.std.proofs.Common.{◌≤◌, length}
use Rattle.order_test.proofs.PlaceLemmas.{ArePlacesFrom}
use Rattle.order_test.proofs.places.first_places.Given as goal

abbrev pub decreases-loop-at : goal.decreases-loop-at
decreases-loop-at l = l.at

abbrev pub invariant-loop-at : goal.invariant-loop-at
invariant-loop-at l = record { within : l.at ≤ length l.order; places : ArePlacesFrom l.size l.order l.places.items l.at }
