use Rattle.std.proofs.Common.{get_or, decimal}
use Rattle.std.proofs.lemmas.List.{get_or_default}
use Rattle.history_log.proofs.Written.{words_step}
use Rattle.check_command.proofs.judge_lines.put_numbers.Goals as goal

pub loop-n-preserved : goal.loop-n-preserved
loop-n-preserved c =
    words_step decimal c.args.numbers.now c.loop-n.n-index (get_or c.args.numbers.now c.loop-n.n-index 0) c.args.out.now.items c.loop-n.out.items c.put.new.out.items c.put_number.new.out.items
    c.loop-n-test.true (get_or_default c.args.numbers.now c.loop-n.n-index 0 _ c.loop-n-test.true) c.loop-n.invariant c.in_ok-put.ensures c.in_ok-put_number.ensures.text
