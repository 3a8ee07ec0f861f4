-- The one table is read, and then the changes are made.
use Rattle.std.proofs.Common.{◌≡◌, List, [], ◌∷◌, Result, ap, subst, ◌∙◌}
use Rattle.std.specs.Prelude.{IfOk}
use Rattle.std.proofs.lemmas.Result.{IfOk-weaker}
use Rattle.cell_base.specs.declared.memory.Memory.{Memory}
use Rattle.sql_tree.specs.declared.table.Table.{Table}
use Rattle.sql_tree.specs.declared.typed.TypedChange.{TypedChange}
use Rattle.row_meaning.specs.declared.picture.TableRows.{TableRows}
use Rattle.statement_course.specs.Course.{Course}
use Rattle.statement_course.specs.Reading.{read_parts}
use Rattle.statement_course.specs.Statements.{part_of_change}
use Rattle.table_reading.specs.declared.reading.Step.{Step}
use Rattle.table_reading.specs.Left.{step_course}
use Rattle.cell_compile.specs.declared.next.Purpose.TheVariants.{Changes}
use Rattle.cell_compile.specs.Plans.{ending}
use Rattle.cell_compile.proofs.Courses.{changed_course}
use Rattle.cell_compile.proofs.beginning.change_of.Goals as goal

pub returns : goal.returns
returns c =
    let table = c.args.table.now in
    let change = c.args.change in
    let n = c.in_ok-change in
    let m = c.in_ok-change-2 in
    let read : (rest : List TableRows → Course) → step_course n.step rest ≡ read_parts (part_of_change table change ∷ []) [] rest =
    subst (λ (r : Result Step Memory). IfOk r (λ step. (rest : List TableRows → Course) → step_course step rest ≡ read_parts (part_of_change table change ∷ []) [] rest))
    n.ensures.taken c.change_step-first.ensures in
    let copied : m.copy ≡ table = subst (λ (r : Result Table Memory). IfOk r (λ copy. copy ≡ table)) m.ensures.taken c.copy.ensures in
    IfOk-weaker c.after_step.result _ _
    (λ plan h. h
    ∙ ap (λ (both : TypedChange × Step). step_course both.1 (ending (Changes both.0 m.copy))) m.ensures.same
    ∙ ap (λ (same : TypedChange). step_course n.step (ending (Changes same m.copy))) n.ensures.same
    ∙ read (ending (Changes change m.copy)) ∙ changed_course change table m.copy copied)
    c.after_step.ensures.course
