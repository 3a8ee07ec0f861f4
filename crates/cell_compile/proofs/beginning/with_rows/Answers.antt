-- The presence of the keys of the rows is read, and then the rows are written.
use Rattle.std.proofs.Common.{List, map, ap, ◌∙◌}
use Rattle.row_meaning.specs.Pictures.{TableRow}
use Rattle.cell_compile.proofs.Courses.{inserts_course}
use Rattle.cell_compile.proofs.beginning.with_rows.Goals as goal

pub returns : goal.returns
returns c =
    c.next_presence.ensures.course
    ∙ inserts_course c.args.number c.args.table.now.key c.in_ok-count.count c.args.rows c.from_items.result c.in_ok-writes.writes
    (c.from_items.ensures ∙ c.in_ok-keys.ensures ∙ ap (λ (rows : List TableRow). map (λ (r : TableRow). r.0) rows) c.as_slice.ensures)
    c.in_ok-writes.ensures (c.in_ok-count.ensures ∙ c.len.ensures)
