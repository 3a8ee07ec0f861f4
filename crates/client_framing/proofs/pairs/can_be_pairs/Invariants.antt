use Rattle.std.proofs.Common.{◌≤◌, length}
use Rattle.std.specs.Prelude.{◌↔◌}
use Rattle.client_framing.specs.Reading.{CanBePairs}
use Rattle.client_framing.proofs.pairs.can_be_pairs.Given as goal

abbrev pub invariant-loop-name : goal.invariant-loop-name
invariant-loop-name l = record {
  fits : length l.rest ≤ l.room;
  same : CanBePairs l.room l.rest ↔ CanBePairs l.size l.held;
}

abbrev pub decreases-loop-name : goal.decreases-loop-name
decreases-loop-name l = length l.rest
