use Rattle.std.proofs.Common.{◌≡◌, ◌++◌, length}
use Rattle.std.specs.Prelude.{flat_map}
use Rattle.std.specs.List.{AllByRecursion}
use Rattle.client_framing.specs.Spelling.{pair_bytes, IsPair}
use Rattle.client_framing.specs.Reading.{ArePairs}
use Rattle.client_framing.proofs.pairs.pairs_of.Given as goal

abbrev pub invariant-loop-name : goal.invariant-loop-name
invariant-loop-name l = record {
  read : l.body ≡ flat_map pair_bytes l.pairs ++ l.rest;
  each : AllByRecursion IsPair l.pairs;
  left : ArePairs l.rest;
}

abbrev pub decreases-loop-name : goal.decreases-loop-name
decreases-loop-name l = length l.rest
