use Rattle.bit_rows.specs.Runs.{SetsWords}
use Rattle.bit_rows.proofs.marking.fill_whole.Given as goal

abbrev pub invariant-loop-word : goal.invariant-loop-word
invariant-loop-word l = SetsWords l.from l.word l.initial.words l.words
