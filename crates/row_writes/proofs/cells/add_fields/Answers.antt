-- One field more, and the end of the fields.
use Rattle.std.proofs.Common.{◌≡◌, [], ap, rules, arith}
use Rattle.std.proofs.lemmas.Grind.{common_steps}
use Rattle.std.specs.Vec.Iter.{into_iter_items}
use Rattle.statement_course.specs.Writing.{updates_of}
use Rattle.row_writes.proofs.Steps.{moved, all_moved}
use Rattle.row_writes.proofs.cells.add_fields.Goals as goal

pub loop-column-preserved : goal.loop-column-preserved
loop-column-preserved c =
    moved c.loop-column.writes _ c.push_field.new.writes _ _ _ c.in_ok-push_field.ensures c.loop-column.invariant
    (ap (λ fields. updates_of c.args.number (record { key = c.args.key.now; fields = fields })) c.in-Some.ensures.steps.0)

pub returns : goal.returns
returns c =
    let none : into_iter_items c.loop-column.column-iterator ≡ [] = first_of (search rules, grind (arith, common_steps)) in
    all_moved c.loop-column.writes _ _ (ap (λ fields. updates_of c.args.number (record { key = c.args.key.now; fields = fields })) none) c.loop-column.invariant
