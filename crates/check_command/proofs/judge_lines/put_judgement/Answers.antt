use Rattle.std.proofs.lemmas.Result.{on_ok_weaker}
use Rattle.check_command.proofs.JudgeText.{nothing_text}
use Rattle.check_command.proofs.judge_lines.put_judgement.Goals as goal

pub returns-in_ok-put-in-Nothing : goal.returns-in_ok-put-in-Nothing
returns-in_ok-put-in-Nothing c =
    rw c.in-Nothing.is
    (on_ok_weaker c.put_steps.result
    (λ text. nothing_text c.in-Nothing.cycle.items c.args.out.now.items c.put-in-Nothing.new.out.items c.put_steps.new.out.items c.in_ok-put-in-Nothing.ensures text)
    (rw c.deref-in-Nothing.ensures.value at c.put_steps.ensures))
