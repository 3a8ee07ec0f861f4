use Rattle.std.proofs.Common.{◌≡◌, ◌++◌, take, map, decimal}
use Rattle.history_log.specs.Spelling.{words_after}
use Rattle.check_command.proofs.judge_lines.put_numbers.Given as goal

abbrev pub invariant-loop-n : goal.invariant-loop-n
invariant-loop-n l = l.out.items ≡ l.initial.out.items ++ words_after (map decimal (take l.n-index l.numbers))
