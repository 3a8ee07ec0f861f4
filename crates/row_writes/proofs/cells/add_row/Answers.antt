-- One column more, and the end of the columns.
use Rattle.std.proofs.Common.{◌≡◌, [], length, ap, ◌∙◌, rules, arith}
use Rattle.std.proofs.lemmas.Grind.{common_steps}
use Rattle.std.specs.Vec.Iter.{into_iter_items}
use Rattle.statement_course.specs.Writing as spec
use Rattle.row_writes.proofs.Steps.{moved, all_moved, field_first}
use Rattle.row_writes.proofs.cells.add_row.Goals as goal

pub loop-value-preserved : goal.loop-value-preserved
loop-value-preserved c = (
  moved c.loop-value.writes _ c.add_field.new.writes _ _ _ c.in_ok-add_field.ensures c.loop-value.invariant.0
      (ap (spec.fields_of c.args.number c.args.key.now c.args.key_column c.loop-value.column) c.in-Some.ensures.steps.0
      ∙ field_first c.args.number c.args.key.now c.args.key_column c.loop-value.column c.in-Some.value (into_iter_items c.next.new.self)),
  omega (arith, ap length c.in-Some.ensures.steps.0, c.loop-value.invariant.1),
)

pub returns : goal.returns
returns c =
    let none : into_iter_items c.loop-value.value-iterator ≡ [] = first_of (search rules, grind (arith, common_steps)) in
    all_moved c.loop-value.writes _ _ (ap (spec.fields_of c.args.number c.args.key.now c.args.key_column c.loop-value.column) none) c.loop-value.invariant.0
