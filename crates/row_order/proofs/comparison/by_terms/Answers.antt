use Rattle.std.proofs.Common.{◌<◌, ◌≤◌, length, sym, ◌∙◌, arith}
use Rattle.std.proofs.lemmas.Bool.{ltb-true, ltb-false}
use Rattle.row_order.proofs.Comparing.{left_ends, right_ends, both_end}
use Rattle.row_order.proofs.comparison.by_terms.Goals as goal

pub returns-in-Some-None : goal.returns-in-Some-None
returns-in-Some-None c =
    let left : c.loop-place.place < length c.args.left.now = ltb-true _ _ (sym c.in-Some-None.ensures.lookup.0) in
    let right : length c.args.right.now ≤ c.loop-place.place = ltb-false _ _ (sym c.in-Some-None.ensures'.lookup.0) in
    sym (c.loop-place.invariant ∙ right_ends c.loop-place.place c.args.directions.now c.args.left.now c.args.right.now (omega arith) left right)

pub returns-in-None-None : goal.returns-in-None-None
returns-in-None-None c =
    let left : length c.args.left.now ≤ c.loop-place.place = ltb-false _ _ (sym c.in-None-None.ensures.lookup.0) in
    let right : length c.args.right.now ≤ c.loop-place.place = ltb-false _ _ (sym c.in-None-None.ensures'.lookup.0) in
    sym (c.loop-place.invariant ∙ both_end c.loop-place.place c.args.directions.now c.args.left.now c.args.right.now (omega arith) left right)

pub returns-in-None-Some : goal.returns-in-None-Some
returns-in-None-Some c =
    let left : length c.args.left.now ≤ c.loop-place.place = ltb-false _ _ (sym c.in-None-Some.ensures.lookup.0) in
    let right : c.loop-place.place < length c.args.right.now = ltb-true _ _ (sym c.in-None-Some.ensures'.lookup.0) in
    sym (c.loop-place.invariant ∙ left_ends c.loop-place.place c.args.directions.now c.args.left.now c.args.right.now (omega arith) left right)
