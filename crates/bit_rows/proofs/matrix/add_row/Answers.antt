use Rattle.std.proofs.Common.{arith}
use Rattle.bit_rows.proofs.Shown.{last_shown, lines_stay_emptied, next_shown, no_shorter, on_ok, one_longer}
use Rattle.bit_rows.proofs.matrix.add_row.Goals as goal

pub returns-then-rows-len-clause-there : goal.returns-then-rows-len-clause-there
returns-then-rows-len-clause-there c =
    let small = c.if-rows-len.true in
    let len = c.len.ensures in
    let same = lines_stay_emptied c.args.rows c.args.lines.now c.clear.new.self c.clear.ensures in
    omega arith

pub returns-then-rows-len-clause-kept : goal.returns-then-rows-len-clause-kept
returns-then-rows-len-clause-kept c =
    let same = lines_stay_emptied c.args.rows c.args.lines.now c.clear.new.self c.clear.ensures in
    omega arith

pub returns-then-rows-len-clause-ok : goal.returns-then-rows-len-clause-ok
returns-then-rows-len-clause-ok c =
    let small = c.if-rows-len.true in
    let len = c.len.ensures in
    next_shown c.args.rows c.args.lines.now c.clear.new.self (omega arith) c.clear.ensures

pub returns-clause-there : goal.returns-clause-there
returns-clause-there c =
    let small = c.requires.rows in
    on_ok c.push.result c.push.ensures.ok (λ is. let longer = one_longer c.args.lines.now c.push.new.self is in omega arith)

pub returns-clause-kept : goal.returns-clause-kept
returns-clause-kept c = no_shorter c.push.result c.args.lines.now c.push.new.self c.push.ensures.ok c.push.ensures.err

pub returns-clause-ok : goal.returns-clause-ok
returns-clause-ok c =
    let past = c.if-rows-len.false in
    let len = c.len.ensures in
    let small = c.requires.rows in
    on_ok c.push.result c.push.ensures.ok (λ is. last_shown c.args.rows c.args.lines.now c.push.new.self (omega arith) is)
