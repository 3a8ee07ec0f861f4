use Rattle.std.proofs.Common.{◌≡◌, ◌++◌, take, map}
use Rattle.history_log.specs.Spelling.{whole_lines}
use Rattle.check_command.specs.JudgeLines.{step_words}
use Rattle.check_command.proofs.judge_lines.put_steps.Given as goal

abbrev pub invariant-loop-step : goal.invariant-loop-step
invariant-loop-step l = l.out.items ≡ l.initial.out.items ++ whole_lines (map step_words (take l.step-index l.steps))
