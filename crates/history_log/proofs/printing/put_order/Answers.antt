use Rattle.history_log.proofs.Written.{order_text}
use Rattle.history_log.proofs.printing.put_order.Goals as goal

pub returns-clause-text : goal.returns-clause-text
returns-clause-text c = order_text _ c.args.order.now c.args.out.now.items c.put.new.out.items c.put_numbers.new.out.items _ c.in_ok-put.ensures c.in_ok-put_numbers.ensures.text c.put-2.ensures
