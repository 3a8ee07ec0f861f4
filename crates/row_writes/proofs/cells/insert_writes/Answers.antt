-- One row more, and the end of the rows.
use Rattle.std.proofs.Common.{◌≡◌, [], length, ap, subst, rules, arith}
use Rattle.std.proofs.lemmas.Grind.{common_steps}
use Rattle.std.specs.Vec.Iter.{into_iter_items}
use Rattle.statement_course.specs.Writing as spec
use Rattle.row_writes.specs.Widths.{AreWithin}
use Rattle.row_writes.proofs.Steps.{moved, all_moved}
use Rattle.row_writes.proofs.cells.insert_writes.Goals as goal

pub loop-key-preserved : goal.loop-key-preserved
loop-key-preserved c = (
  moved c.loop-key.writes _ c.add_row.new.writes _ _ _ c.in_ok-add_row.ensures c.loop-key.invariant.0
      (ap (spec.inserts c.args.number c.args.table.now.key) c.in-Some.ensures.steps.0),
  (subst (AreWithin (length c.args.table.now.columns)) c.in-Some.ensures.steps.0 c.loop-key.invariant.1).1,
)

pub returns : goal.returns
returns c =
    let none : into_iter_items c.loop-key.key-iterator ≡ [] = first_of (search rules, grind (arith, common_steps)) in
    all_moved c.loop-key.writes _ _ (ap (spec.inserts c.args.number c.args.table.now.key) none) c.loop-key.invariant.0
