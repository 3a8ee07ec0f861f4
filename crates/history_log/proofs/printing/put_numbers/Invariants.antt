use Rattle.std.proofs.Common.{◌≡◌, ◌++◌, take, map, decimal}
use Rattle.std.specs.List.{AllByRecursion}
use Rattle.history_log.specs.Reading.{IsU32}
use Rattle.history_log.specs.Spelling.{words_after}
use Rattle.history_log.proofs.printing.put_numbers.Given as goal

abbrev pub invariant-loop-n : goal.invariant-loop-n
invariant-loop-n l =
    (l.out.items ≡ l.initial.out.items ++ words_after (map decimal (take l.n-index l.numbers)))
    × AllByRecursion IsU32 (take l.n-index l.numbers)
