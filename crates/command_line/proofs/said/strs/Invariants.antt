-- What the loop of `strs` keeps.
use Rattle.std.proofs.Common.{◌≡◌, map, take}
use Rattle.command_line.proofs.said.strs.Given as goal

abbrev pub invariant-loop-word : goal.invariant-loop-word
invariant-loop-word l = map (λ w. w.now) l.strs.items ≡ take l.word-index l.words
