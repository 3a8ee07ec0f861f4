use Rattle.history_log.proofs.Written.{lines_step}
use Rattle.check_command.specs.JudgeLines.{step_words}
use Rattle.check_command.proofs.judge_lines.put_steps.Goals as goal

pub loop-step-preserved : goal.loop-step-preserved
loop-step-preserved c =
    lines_step step_words c.args.steps.now c.loop-step.step-index c.step-item.result c.args.out.now.items c.loop-step.out.items c.put_step.new.out.items c.put.new.out.items
    c.loop-step-test.true c.step-item.is c.loop-step.invariant c.in_ok-put_step.ensures c.in_ok-put.ensures
