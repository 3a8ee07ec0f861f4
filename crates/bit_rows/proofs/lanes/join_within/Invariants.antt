use Rattle.std.proofs.Common.{◌*◌}
use Rattle.bit_rows.specs.Words.{JoinsWithin}
use Rattle.bit_rows.proofs.lanes.join_within.Given as goal

abbrev pub invariant-loop-block : goal.invariant-loop-block
invariant-loop-block l = JoinsWithin l.to l.from (l.block * 16) l.initial.words l.words
