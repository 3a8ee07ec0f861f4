-- One value more, and the end of the values.
use Rattle.std.proofs.Common.{◌≡◌, [], length, ap, sym, ◌∙◌, rules, arith}
use Rattle.std.proofs.lemmas.Grind.{common_steps}
use Rattle.std.specs.Vec.Iter.{into_iter_items}
use Rattle.row_meaning.specs.Changes as changes
use Rattle.row_writes.proofs.Assigning.{field_more}
use Rattle.row_writes.proofs.Steps.{moved, all_moved}
use Rattle.row_writes.proofs.assigned.fields_of.Goals as goal

pub loop-value-preserved : goal.loop-value-preserved
loop-value-preserved c = (
  moved c.loop-value.fields _ c.add_assigned.new.fields _ _ _ c.in_ok-add_assigned.ensures c.loop-value.invariant.0
      (ap (changes.fields_from c.loop-value.place c.args.set.now) c.in-Some.ensures.steps.0
      ∙ sym (field_more c.loop-value.place c.args.set.now c.in-Some.value (into_iter_items c.next.new.self))),
  omega (arith, ap length c.in-Some.ensures.steps.0, c.loop-value.invariant.1),
)

pub returns : goal.returns
returns c =
    let none : into_iter_items c.loop-value.value-iterator ≡ [] = first_of (search rules, grind (arith, common_steps)) in
    all_moved c.loop-value.fields _ _ (ap (changes.fields_from c.loop-value.place c.args.set.now) none) c.loop-value.invariant.0
