-- A reading asks on.
use Rattle.std.proofs.Common.{ap, sym, ◌∙◌}
use Rattle.statement_course.specs.declared.demand.Demand.{Demand}
use Rattle.table_reading.specs.declared.reading.Step.{Step}
use Rattle.table_reading.specs.Left.{step_course}
use Rattle.cell_compile.specs.declared.next.Next.TheVariants.{Reads}
use Rattle.cell_compile.specs.Plans.{ending, next_course}
use Rattle.cell_compile.proofs.Courses.{reads_course}
use Rattle.cell_compile.proofs.ending.after_step.Goals as goal

pub returns-in-Asks-clause-course : goal.returns-in-Asks-clause-course
returns-in-Asks-clause-course c =
    let a = c.in-Asks in
    let purpose = c.args.purpose in
    c.of.ensures.course ∙ ap (λ (demand : Demand). next_course demand (Reads a.reading purpose)) c.demand_of.ensures
    ∙ reads_course a.question a.reading purpose ∙ ap (λ (step : Step). step_course step (ending purpose)) (sym a.is)
