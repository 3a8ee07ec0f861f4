-- The first key stands before the others.
use Rattle.std.proofs.Common.{List, ap, sym, ◌∙◌}
use Rattle.cell_base.specs.declared.key.Key.{Key}
use Rattle.statement_course.specs.Writing.{read_presences}
use Rattle.cell_compile.specs.Plans.{inserting}
use Rattle.cell_compile.proofs.inserting.next_presence.Goals as goal

pub returns-in-Some-clause-course : goal.returns-in-Some-clause-course
returns-in-Some-clause-course c =
    let i = c.args.insertion in
    c.of.ensures.course ∙ ap (λ (keys : List Key). read_presences i.table keys i.found (inserting i.writes i.count)) (sym c.in-Some.ensures)
