use Rattle.std.proofs.Common.{arith, sym, ◌∙◌}
use Rattle.cycle_report.proofs.RingLemmas.{no_repeat_start, no_repeat_step, no_repeat_all}
use Rattle.cycle_report.proofs.rings.again.Goals as goal

pub loop-second-init : goal.loop-second-init
loop-second-init c = no_repeat_start c.args.ring.now c.args.first

pub returns-then-number-other-clause-some : goal.returns-then-number-other-clause-some
returns-then-number-other-clause-some c =
    let own = c.begin_of-number.ensures in
    let other = c.begin_of-other.ensures in
    record {
      apart = omega arith;
      one = own.edge;
      other = other.edge;
      one_is = own.is;
      other_is = other.is;
      same = sym own.number_is ∙ c.if-number-other.true ∙ other.number_is;
    }

pub loop-second-preserved : goal.loop-second-preserved
loop-second-preserved c =
    let own = c.begin_of-number.ensures in
    let other = c.begin_of-other.ensures in
    no_repeat_step c.args.ring.now c.args.first c.loop-second.second own.edge other.edge own.is other.is
    (λ same. c.if-number-other.false (own.number_is ∙ same ∙ sym other.number_is)) c.loop-second.invariant

pub returns-clause-none : goal.returns-clause-none
returns-clause-none c = λ second repeat.
    no_repeat_all c.args.ring.now c.args.first c.loop-second.second c.loop-second-test.false c.loop-second.invariant second repeat
