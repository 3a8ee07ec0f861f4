use Rattle.history_log.proofs.Written.{order_text}
use Rattle.check_command.proofs.judge_lines.put_order.Goals as goal

pub returns : goal.returns
returns c = order_text _ c.args.order.now c.args.out.now.items c.put.new.out.items c.put_numbers.new.out.items _ c.in_ok-put.ensures c.in_ok-put_numbers.ensures c.put-2.ensures
