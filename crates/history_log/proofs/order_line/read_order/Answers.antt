use Rattle.std.proofs.Common.{◌∙◌, sym}
use Rattle.history_log.proofs.WholeOrders.{order_from, no_order_word, no_order_words}
use Rattle.history_log.proofs.order_line.read_order.Goals as goal

pub returns-in_default : goal.returns-in_default
returns-in_default c = no_order_words c.args.line.now (sym c.new-words.ensures ∙ c.in_default.ensures.none)

pub returns-then-is_order : goal.returns-then-is_order
returns-then-is_order c = order_from c.args.line.now c.in-Some.word.now c.next.new.self c.numbers_of.result (sym c.new-words.ensures ∙ c.in-Some.ensures.some)
    (c.is_order.ensures.0 c.if-is_order.true) c.numbers_of.ensures

pub returns-else-is_order : goal.returns-else-is_order
returns-else-is_order c = no_order_word c.args.line.now c.in-Some.word.now c.next.new.self c.is_order.result (sym c.new-words.ensures ∙ c.in-Some.ensures.some)
    c.if-is_order.false c.is_order.ensures.1
