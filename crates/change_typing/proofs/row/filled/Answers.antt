-- One slot more, and the end of the slots.
use Rattle.std.proofs.Common.{◌≡◌, ◌+◌, ◌<◌, [], length, drop, get_or, ap, ◌∙◌, rules, arith}
use Rattle.std.proofs.lemmas.Grind.{common_steps}
use Rattle.std.proofs.lemmas.List.{length_push}
use Rattle.std.specs.Vec.Iter.{into_iter_items}
use Rattle.change_typing.specs.Rows.{filled}
use Rattle.change_typing.proofs.Items.{filled_more, filled_all}
use Rattle.change_typing.proofs.row.filled.Goals as goal

pub loop-slot-preserved : goal.loop-slot-preserved
loop-slot-preserved c =
    let left = ap length c.in-Some.ensures.steps.0 in
    let within : length c.loop-slot.row < length c.args.columns.now = omega (arith, left, c.loop-slot.invariant.1) in
    let next : length c.push.new.self ≡ length c.loop-slot.row + 1 = ap length c.in_ok-push.ensures.ok ∙ length_push c.loop-slot.row c.in_ok-value.value in (
      filled_more c.args.columns.now (length c.loop-slot.row) (length c.push.new.self) c.index-columns-len.result c.in-Some.slot
          (into_iter_items c.loop-slot.slot-iterator) (into_iter_items c.next.new.self) c.in_ok-value.value c.loop-slot.row c.push.new.self
          (filled c.args.slots c.args.columns.now) within
          (c.index-columns-len.is ∙ ap (λ k. get_or c.args.columns.now k c.index-columns-len.result) c.len.ensures) c.in-Some.ensures.steps.0
          c.in_ok-value.ensures c.in_ok-push.ensures.ok next c.loop-slot.invariant.0,
      omega (arith, next, left, c.loop-slot.invariant.1),
    )

pub returns : goal.returns
returns c =
    let none : into_iter_items c.loop-slot.slot-iterator ≡ [] = first_of (search rules, grind (arith, common_steps)) in
    filled_all (drop (length c.loop-slot.row) c.args.columns.now) (into_iter_items c.loop-slot.slot-iterator) c.loop-slot.row
    (filled c.args.slots c.args.columns.now) none c.loop-slot.invariant.0
