-- The table is found by its number, or there is none.
use Rattle.std.proofs.Common.{Option, Some, ap, sym, ◌∙◌}
use Rattle.std.proofs.lemmas.Option.{slice_get-get_or, slice_get_past}
use Rattle.std.proofs.lemmas.Result.{IfOk-weaker}
use Rattle.sql_tree.specs.declared.table.Table.{Table}
use Rattle.statement_course.specs.Statements.{course_of_insert}
use Rattle.cell_compile.proofs.beginning.insert_plan.Goals as goal

pub returns-in-Some : goal.returns-in-Some
returns-in-Some c =
    let insert = c.args.insert in
    let found = c.in-Some.ensures.lookup in
    let at = slice_get-get_or c.args.tables.now insert.table c.in-Some.table.now found.3.0 ∙ ap (λ (t : Table). Some t) (sym found.1) in
    IfOk-weaker c.insert_into.result _ _ (λ plan h. h ∙ ap (λ (t : Option Table). course_of_insert insert t) (sym at)) c.insert_into.ensures

pub returns : goal.returns
returns c =
    let insert = c.args.insert in
    let none = c.in-None.ensures.lookup in
    c.reply.ensures.course ∙ ap (λ (t : Option Table). course_of_insert insert t) (sym (slice_get_past c.args.tables.now insert.table none.3))
