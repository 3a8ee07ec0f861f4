-- One table is read.
use Rattle.std.proofs.Common.{List, [], ap, ◌∙◌}
use Rattle.std.proofs.lemmas.Result.{IfOk-weaker}
use Rattle.statement_course.specs.Reading.{read_parts}
use Rattle.statement_course.specs.Reading as course
use Rattle.statement_course.specs.Statements.{part_of_change}
use Rattle.cell_compile.proofs.Courses.{one_part}
use Rattle.cell_compile.proofs.beginning.change_step.Goals as goal

pub returns : goal.returns
returns c =
    let parts = one_part c.in_ok-part_of.field-0 c.new-parts.result c.push.new.self (part_of_change c.args.table.now c.args.change.now)
    c.new-parts.ensures c.in_ok-push.ensures.ok c.in_ok-part_of.ensures in
    IfOk-weaker c.begin.result _ _ (λ step h rest. h rest ∙ ap (λ (read : List course.Part). read_parts read [] rest) parts) c.begin.ensures.course
