use Rattle.std.proofs.Common.{arith}
use Rattle.wide_check.proofs.PieceLemmas.{none_yet, one_more, found_here, none_found}
use Rattle.wide_check.proofs.pieces.first_in_turn.Goals as goal

pub loop-place-init : goal.loop-place-init
loop-place-init c = record { after = omega arith; within = c.requires.from; kept = none_yet c.args.survey.now.events.now c.args.survey.now.order.now c.args.from }

pub returns-then-is_unkept : goal.returns-then-is_unkept
returns-then-is_unkept c =
    found_here c.args.survey.now.events.now c.args.survey.now.order.now c.args.from c.args.to c.loop-place.place c.loop-place.invariant.after c.loop-place-test.true c.loop-place.invariant.kept
    (c.is_unkept.ensures.unkept c.if-is_unkept.true)

pub loop-place-preserved : goal.loop-place-preserved
loop-place-preserved c = record {
  after = let after = c.loop-place.invariant.after in omega arith;
  within = let less = c.loop-place-test.true in omega arith;
  kept =
      one_more c.args.survey.now.events.now c.args.survey.now.order.now c.args.from c.loop-place.place (c.is_unkept.ensures.kept c.if-is_unkept.false) c.loop-place.invariant.kept;
}

pub returns : goal.returns
returns c =
    none_found c.args.survey.now.events.now c.args.survey.now.order.now c.args.from c.args.to c.loop-place.place c.loop-place.invariant.after
    (let end = c.loop-place-test.false in omega arith) c.loop-place.invariant.within c.loop-place.invariant.kept
