use Rattle.std.proofs.Common.{◌≡◌, List, length, Ok, sym, subst}
use Rattle.sql_tree.specs.declared.table.Table.{Table}
use Rattle.typing_rules.specs.Typed.{typed}
use Rattle.statement_course.specs.Course.{Course}
use Rattle.statement_course.specs.Laws.{ReadsFirst}
use Rattle.statement_course.specs.Statements.{course_of}
use Rattle.outcome_replies.specs.Replies.{CanBeTold}
use Rattle.outcome_replies.specs.Ends.{EndsIn}
use Rattle.outcome_replies.proofs.Told.{outcomes_told}
use Rattle.statement_laws.proofs.ReadsFirst.{reads_first}
use Rattle.cell_compile.specs.Plans.{rest_of}
use Rattle.block_machine.specs.Stages.{KnowsTables}
use Rattle.block_machine.proofs.Carried.{if_ok}
use Rattle.block_machine.proofs.Holding.{holding_some}
use Rattle.block_machine.proofs.Tables.{narrow_sound, columns_narrow}
use Rattle.block_machine.proofs.courses.judge.Goals as goal

pub typed-requires : goal.typed-requires
typed-requires c = rw c.as_slice-tables.ensures.value (narrow_sound c.args.known.now.tables.items c.requires.few c.requires.tables)

pub planned-requires : goal.planned-requires
planned-requires c = rw c.as_slice-tables.ensures.value (columns_narrow c.args.known.now.tables.items c.requires.tables)

pub begin_course-requires : goal.begin_course-requires
begin_course-requires c =
    let plan_is : rest_of c.in_ok-plan-in-Ok.plan ≡ course_of c.args.known.now.tables.items c.in-Ok.t =
    subst (λ (xs : List Table). rest_of c.in_ok-plan-in-Ok.plan ≡ course_of xs c.in-Ok.t) c.as_slice-tables.ensures.value c.in_ok-plan-in-Ok.ensures in
    let types : typed c.args.known.now.tables.items c.args.statement.now ≡ Ok c.in-Ok.t =
    subst (λ (xs : List Table). typed xs c.args.statement.now ≡ Ok c.in-Ok.t) c.as_slice-tables.ensures.value c.in-Ok.ensures in
    subst (λ (x : Course). EndsIn CanBeTold x) (sym plan_is) (outcomes_told c.args.known.now.tables.items c.args.statement.now c.in-Ok.t c.requires.tables c.requires.plain types)

pub returns-in_ok-plan-in-Ok-clause-knows : goal.returns-in_ok-plan-in-Ok-clause-knows
returns-in_ok-plan-in-Ok-clause-knows c =
    let plan_is : rest_of c.in_ok-plan-in-Ok.plan ≡ course_of c.args.known.now.tables.items c.in-Ok.t =
    subst (λ (xs : List Table). rest_of c.in_ok-plan-in-Ok.plan ≡ course_of xs c.in-Ok.t) c.as_slice-tables.ensures.value c.in_ok-plan-in-Ok.ensures in
    if_ok (λ stage. (tables : List Table) → ReadsFirst (length tables) (rest_of c.in_ok-plan-in-Ok.plan) → KnowsTables stage tables) (λ stage. KnowsTables stage c.args.known.now.tables.items) c.begin_course.result
    (λ stage knows. knows c.args.known.now.tables.items (subst (λ (x : Course). ReadsFirst (length c.args.known.now.tables.items) x) (sym plan_is) (reads_first c.args.known.now.tables.items c.in-Ok.t)))
    c.begin_course.ensures.knows

pub returns-in-Err-State-clause-some : goal.returns-in-Err-State-clause-some
returns-in-Err-State-clause-some c = holding_some c.args.built.now.items c.fail.result c.fail.ensures.constant
