use Rattle.std.proofs.Common.{◌≡◌}
use Rattle.turn_notes.specs.Numbered.{numbered, SameButEntries}
use Rattle.turn_notes.proofs.writers.write_all.Given as goal

abbrev pub invariant-loop-value : goal.invariant-loop-value
invariant-loop-value g l = record {
  same : SameButEntries l.fn.pass l.pass;
  own : l.pass.own ≡ numbered l.by l.value;
}
