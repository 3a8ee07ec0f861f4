use Rattle.std.proofs.Common.{◌≡◌, ◌++◌, take}
use Rattle.history_log.proofs.words.after_word.Given as goal

abbrev pub invariant-loop-byte : goal.invariant-loop-byte
invariant-loop-byte l = l.text ≡ take l.byte-index l.word ++ l.rest
