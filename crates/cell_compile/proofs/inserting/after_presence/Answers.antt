-- A row is found where this key's is there, or another's was.
use Rattle.std.proofs.Common.{Bool, true, ap, sym, ◌∙◌}
use Rattle.std.specs.Prelude.{if◌then◌else◌}
use Rattle.statement_course.specs.Writing.{read_presences}
use Rattle.cell_compile.specs.declared.next.Insertion.{Insertion}
use Rattle.cell_compile.specs.Plans.{insertion_course, inserting}
use Rattle.cell_compile.proofs.inserting.after_presence.Goals as goal
use Rattle.cell_compile.proofs.inserting.after_presence.Goals.{then-is_true, else-is_true}

pub returns-clause-course : goal.returns-clause-course
returns-clause-course c =
    let i = c.args.insertion in
    let course = λ (there : Bool). read_presences i.table i.keys (if there then true else i.found) (inserting i.writes i.count) in
    c.next_presence.ensures.course ∙ elim c.if-is_true.branch [
      | then-is_true w ↦ ap (λ (known : Insertion). insertion_course known) w.known-is ∙ ap course (sym w.if-is_true.true ∙ c.is_true.ensures)
      | else-is_true w ↦ ap (λ (known : Insertion). insertion_course known) w.known-is ∙ ap course (sym w.if-is_true.false ∙ c.is_true.ensures)
    ]
