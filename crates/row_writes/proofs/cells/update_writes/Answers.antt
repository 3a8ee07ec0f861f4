-- One change more, and the end of the changes.
use Rattle.std.proofs.Common.{◌≡◌, [], ap, rules, arith}
use Rattle.std.proofs.lemmas.Grind.{common_steps}
use Rattle.std.specs.Vec.Iter.{into_iter_items}
use Rattle.statement_course.specs.Writing as spec
use Rattle.row_writes.specs.Seen.{changes_seen}
use Rattle.row_writes.proofs.Steps.{moved, all_moved}
use Rattle.row_writes.proofs.cells.update_writes.Goals as goal

pub loop-change-preserved : goal.loop-change-preserved
loop-change-preserved c =
    moved c.loop-change.writes _ c.add_fields.new.writes _ _ _ c.in_ok-add_fields.ensures c.loop-change.invariant
    (ap (λ changes. spec.updates c.args.number (changes_seen changes)) c.in-Some.ensures.steps.0)

pub returns : goal.returns
returns c =
    let none : into_iter_items c.loop-change.change-iterator ≡ [] = first_of (search rules, grind (arith, common_steps)) in
    all_moved c.loop-change.writes _ _ (ap (λ changes. spec.updates c.args.number (changes_seen changes)) none) c.loop-change.invariant
