use Rattle.order_test.proofs.FirstLemmas.{same_rising, put_rising, put_has, one_rises, pushed_has}
use Rattle.order_test.proofs.firsts.start_key.Goals as goal

pub returns-in_err-insert-clause-rising : goal.returns-in_err-insert-clause-rising
returns-in_err-insert-clause-rising c = λ rising.
    same_rising c.args.firsts.now (record { alloc = c.args.firsts.now.alloc; tables = c.insert.new.self }) c.in_err-insert.ensures.err c.args.number rising

pub returns-clause-rising : goal.returns-clause-rising
returns-clause-rising c = λ rising.
    put_rising c.args.firsts.now (record { alloc = c.args.firsts.now.alloc; tables = c.insert.new.self }) c.args.table c.push.new.self c.in_ok-insert.ensures.updates.0 c.args.number
    rising (one_rises c.new-first.result c.push.new.self c.args.key c.args.number c.new-first.ensures c.in_ok-push.ensures.ok)

pub returns-clause-noted : goal.returns-clause-noted
returns-clause-noted c =
    put_has c.args.firsts.now (record { alloc = c.args.firsts.now.alloc; tables = c.insert.new.self }) c.args.table c.push.new.self c.in_ok-insert.ensures.updates.0 c.args.key c.args.number
    (pushed_has c.new-first.result c.push.new.self c.args.key c.args.number c.in_ok-push.ensures.ok)
