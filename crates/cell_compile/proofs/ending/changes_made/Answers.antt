-- The cells of the changes are written.
use Rattle.std.proofs.Common.{◌∙◌}
use Rattle.cell_compile.proofs.Courses.{deleted_course, updated_course}
use Rattle.cell_compile.proofs.ending.changes_made.Goals as goal

pub returns-in_ok-delete_writes-clause-course : goal.returns-in_ok-delete_writes-clause-course
returns-in_ok-delete_writes-clause-course c =
    c.writing.ensures.course
    ∙ deleted_course c.args.change.now c.args.made c.in_ok-count.count c.in_ok-delete_writes.field-0 c.if-change.true
    (c.in_ok-count.ensures ∙ c.len.ensures) c.in_ok-delete_writes.ensures

pub returns-in_ok-update_writes-clause-course : goal.returns-in_ok-update_writes-clause-course
returns-in_ok-update_writes-clause-course c =
    c.writing-else-change.ensures.course
    ∙ updated_course c.args.change.now c.args.made c.in_ok-count.count c.in_ok-update_writes.field-0 c.if-change.false
    (c.in_ok-count.ensures ∙ c.len.ensures) c.in_ok-update_writes.ensures
