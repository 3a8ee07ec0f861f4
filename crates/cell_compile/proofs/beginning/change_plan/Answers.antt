-- The table is found by its number, or there is none.
use Rattle.std.proofs.Common.{Option, Some, ap, sym, ◌∙◌}
use Rattle.std.proofs.lemmas.Option.{slice_get-get_or, slice_get_past}
use Rattle.std.proofs.lemmas.Result.{IfOk-weaker}
use Rattle.sql_tree.specs.declared.table.Table.{Table}
use Rattle.statement_course.specs.Statements.{course_of_change}
use Rattle.cell_compile.specs.declared.plan.Plan.{Plan}
use Rattle.cell_compile.specs.Plans.{rest_of}
use Rattle.cell_compile.proofs.beginning.change_plan.Goals as goal

pub returns-in-Some : goal.returns-in-Some
returns-in-Some c =
    let change = c.args.change in
    let found = c.in-Some.ensures.lookup in
    let at = slice_get-get_or c.args.tables.now change.table c.in-Some.table.now found.3.0 ∙ ap (λ (t : Table). Some t) (sym found.1) in
    IfOk-weaker c.change_of.result _ _ (λ plan h. h ∙ ap (λ (t : Option Table). course_of_change change t) (sym at)) c.change_of.ensures

pub returns-in-None : goal.returns-in-None
returns-in-None c =
    let change = c.args.change in
    let none = c.in-None.ensures.lookup in
    ap (λ (plan : Plan). rest_of plan) c.without.ensures ∙ c.reply.ensures.course
    ∙ ap (λ (t : Option Table). course_of_change change t) (sym (slice_get_past c.args.tables.now change.table none.3))
