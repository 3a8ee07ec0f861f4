use Rattle.std.proofs.Common.{◌≡◌, ◌++◌, length, map}
use Rattle.std.specs.List.{AllByRecursion}
use Rattle.history_log.specs.Spelling.{key_word}
use Rattle.history_log.specs.Reading.{FitsKey}
use Rattle.history_log.proofs.shapes.keys_of.Given as goal

abbrev pub invariant-loop-word : goal.invariant-loop-word
invariant-loop-word l = (l.initial.words ≡ map key_word l.keys ++ l.words) × AllByRecursion FitsKey l.keys

abbrev pub decreases-loop-word : goal.decreases-loop-word
decreases-loop-word l = length l.words
