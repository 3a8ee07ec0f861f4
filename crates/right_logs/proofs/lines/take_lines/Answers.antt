use Rattle.right_logs.proofs.Texts.{none_taken, one_more, all_taken, stands_now, taken_shorter}
use Rattle.right_logs.proofs.lines.take_lines.Goals as goal

pub loop-rest-init : goal.loop-rest-init
loop-rest-init c = λ order stands. none_taken c.args.version c.args.level order c.args.places.now.at.items c.args.text.now c.args.pass.now stands

pub take_first-requires : goal.take_first-requires
take_first-requires c =
    stands_now c.args.version c.args.level c.requires.0 c.args.places.now.at.items c.args.text.now c.loop-rest.rest.now c.loop-rest.pass (c.loop-rest.invariant c.requires.0 c.requires.1)

pub loop-rest-preserved : goal.loop-rest-preserved
loop-rest-preserved c = λ order stands.
    one_more c.args.version c.args.level order c.args.places.now.at.items c.args.text.now c.loop-rest.rest.now c.in-Some.after.now c.loop-rest.pass c.take_first.new.pass
    (c.loop-rest.invariant order stands) (rw c.in-Some.is at c.in_ok-after.ensures)

pub loop-rest-smaller : goal.loop-rest-smaller
loop-rest-smaller c =
    taken_shorter c.args.version c.args.level c.args.places.now.at.items c.loop-rest.rest.now c.in-Some.after.now c.loop-rest.pass c.take_first.new.pass
    (rw c.in-Some.is at c.in_ok-after.ensures)

pub returns : goal.returns
returns c = λ right order stands.
    all_taken c.args.version c.args.level order c.args.places.now.at.items c.args.text.now c.loop-rest.rest.now c.loop-rest.pass c.loop-rest-test.ensures (c.loop-rest.invariant order stands)
