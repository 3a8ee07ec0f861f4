use Rattle.std.proofs.Common.{◌≡◌, ◌++◌, length, map, decimal}
use Rattle.std.specs.List.{AllByRecursion}
use Rattle.history_log.specs.Reading.{IsU32}
use Rattle.history_log.proofs.shapes.numbers_of.Given as goal

abbrev pub invariant-loop-word : goal.invariant-loop-word
invariant-loop-word l = (l.initial.words ≡ map decimal l.numbers ++ l.words) × AllByRecursion IsU32 l.numbers

abbrev pub decreases-loop-word : goal.decreases-loop-word
decreases-loop-word l = length l.words
