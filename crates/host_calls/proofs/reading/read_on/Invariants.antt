use Rattle.std.proofs.Common.{length, ◌-◌, ◌+◌, ◌≤◌, ◌<◌}
use Rattle.link_traits.specs.Traffic.{Both}
use Rattle.host_calls.specs.Reading.{ReadSoFar}
use Rattle.host_calls.proofs.reading.read_on.Given as goal

abbrev pub invariant-loop-bytes : goal.invariant-loop-bytes
invariant-loop-bytes g l = record {
  so_far : Both (ReadSoFar l.bytes.items) (g.S.Sides.traffic l.initial.source) (g.S.Sides.traffic l.source);
  later : g.S.Sides.read_faults l.initial.source ≤ g.S.Sides.read_faults l.source;
  room : 0 < length l.room;
  few : length l.bytes.items ≤ l.most + 1;
}

abbrev pub decreases-loop-bytes : goal.decreases-loop-bytes
decreases-loop-bytes g l = (l.most + 1) - length l.bytes.items
