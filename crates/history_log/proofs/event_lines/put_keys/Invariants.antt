use Rattle.std.proofs.Common.{◌≡◌, ◌++◌, take, map}
use Rattle.std.specs.List.{AllByRecursion}
use Rattle.history_log.specs.Reading.{FitsKey}
use Rattle.history_log.specs.Spelling.{key_word, words_after}
use Rattle.history_log.proofs.event_lines.put_keys.Given as goal

abbrev pub invariant-loop-key : goal.invariant-loop-key
invariant-loop-key l =
    (l.out.items ≡ l.initial.out.items ++ words_after (map key_word (take l.key-index l.keys)))
    × AllByRecursion FitsKey (take l.key-index l.keys)
