use Rattle.std.proofs.Common.{[]}
use Rattle.right_logs.proofs.Texts.{met_events, judged_events, stands_now}
use Rattle.right_logs.proofs.text.seen_by.Goals as goal

pub order_is_met-requires : goal.order_is_met-requires
order_is_met-requires c =
    stands_now c.args.version c.args.level c.requires.0 c.args.places.now.at.items c.args.text.now [] c.take_lines.new.pass
    (c.in_ok-taken.ensures c.if-not-taken.false c.requires.0 c.requires.1)

pub returns-then-order_is_met : goal.returns-then-order_is_met
returns-then-order_is_met c = λ order stands holds.
    met_events c.args.version c.args.level order c.args.places.now.at.items c.args.text.now c.take_lines.new.pass (c.in_ok-taken.ensures c.if-not-taken.false order stands)
    (c.order_is_met.ensures c.if-order_is_met.true) holds

pub returns-else-order_is_met : goal.returns-else-order_is_met
returns-else-order_is_met c = λ order stands holds.
    judged_events c.args.version c.args.level order c.args.places.now.at.items c.args.text.now c.take_lines.new.pass (c.in_ok-taken.ensures c.if-not-taken.false order stands)
