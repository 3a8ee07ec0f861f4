use Rattle.std.proofs.Common.{◌≡◌, ◌+◌, ◌≤◌, List, length, refl, sym, ◌∙◌, ap, subst, arith, IfOk}
use Rattle.sql_tree.specs.declared.table.Table.{Table}
use Rattle.statement_course.specs.declared.demand.PlanAnswer.TheVariants as plan_answers
use Rattle.statement_course.specs.Course.{Course, first_demand}
use Rattle.statement_course.specs.Laws.{ReadsFirst}
use Rattle.cell_compile.specs.Plans.{rest_of, left_of}
use Rattle.block_machine.specs.declared.block.Owed.TheVariants as owes
use Rattle.block_machine.specs.declared.call.Answer.TheVariants as answers
use Rattle.block_machine.specs.declared.stage.MessageStage.TheVariants as stages
use Rattle.block_machine.specs.Statements.{owed_in, runs}
use Rattle.block_machine.specs.Stages.{IsScriptOf, KnowsTables, block_of, left_at, owed_at}
use Rattle.block_machine.proofs.Answered.{after_first}
use Rattle.block_machine.proofs.Carried.{if_ok}
use Rattle.block_machine.proofs.Pursuing.{owed_pending, pursue_goes, pursue_refused, at_rest_advances, at_rest_some}
use Rattle.block_machine.proofs.Writing.{write_call_fits, write_fits}
use Rattle.block_machine.proofs.writes.make_write.Goals as goal

pub write-requires-clause-pending : goal.write-requires-clause-pending
write-requires-clause-pending g c = (c.requires.may c.take_write-cell.result.0 c.take_write-cell.result.1 c.take_write-cell.ensures.write).0

pub write-requires-clause-storable : goal.write-requires-clause-storable
write-requires-clause-storable g c = (c.requires.may c.take_write-cell.result.0 c.take_write-cell.result.1 c.take_write-cell.ensures.write).1

pub returns-in-Ok-clause-goes : goal.returns-in-Ok-clause-goes
returns-in-Ok-clause-goes g c = λ known.
    pursue_goes c.args.run c.args.pending answers.Written plan_answers.Written c.block_of.result c.settle-stage.result c.or_short.result.stage
    c.or_short.result.out_of_memory c.settle-stage.new.built.items known refl
    (write_call_fits (first_demand (rest_of c.args.run.plan)) c.take_write-cell.result.0 c.take_write-cell.result.1
    c.take_write-cell.ensures.write) c.block_of.ensures
    (subst (λ (x : Course). IfOk c.settle-stage.result (λ stage. IsScriptOf (runs c.args.run.description x (block_of c.args.pending)) stage
    c.settle-stage.new.built.items)) c.take_write-cell.ensures.course c.settle-stage.ensures.goes) c.or_short.ensures.goes

pub returns-in-Ok-clause-owed : goal.returns-in-Ok-clause-owed
returns-in-Ok-clause-owed g c =
    let owed : owed_in c.block_of.result ≡ owes.Rollback = ap owed_in c.block_of.ensures ∙ owed_pending c.args.pending in
    c.or_short.ensures.owed (if_ok (λ stage. owed_at stage ≡ owes.Rollback) (λ stage. owed_at stage ≡ owed_in c.block_of.result) c.settle-stage.result (λ stage h. h ∙ sym owed) c.settle-stage.ensures.owed) ∙ owed

pub returns-in-Ok-clause-work : goal.returns-in-Ok-clause-work
returns-in-Ok-clause-work g c = c.or_short.ensures.work 4 (omega arith) c.settle-stage.ensures.work

pub returns-in-Ok-clause-left : goal.returns-in-Ok-clause-left
returns-in-Ok-clause-left g c =
    let low : left_at c.or_short.result.stage ≤ 1 + left_of c.take_write-cell.result.2 =
    c.or_short.ensures.left (1 + left_of c.take_write-cell.result.2) c.settle-stage.ensures.left in
    omega (arith, low, c.take_write-cell.ensures.less)

pub returns-in-Ok-clause-knows : goal.returns-in-Ok-clause-knows
returns-in-Ok-clause-knows g c = λ known first.
    c.or_short.ensures.knows known
    (if_ok (λ stage. (tables : List Table) → ReadsFirst (length tables) (rest_of c.take_write-cell.result.2) → KnowsTables stage tables) (λ stage. KnowsTables stage known) c.settle-stage.result
    (λ stage knows. knows known
    (subst (ReadsFirst (length known)) (sym c.take_write-cell.ensures.course)
    (after_first (length known) (rest_of c.args.run.plan) plan_answers.Written
    (write_fits (rest_of c.args.run.plan) c.take_write-cell.result.0 c.take_write-cell.result.1 c.take_write-cell.ensures.write) first)))
    c.settle-stage.ensures.knows)

pub returns-in-Err-clause-goes : goal.returns-in-Err-clause-goes
returns-in-Err-clause-goes g c = λ known.
    at_rest_advances (stages.Running c.args.run c.args.pending) known (answers.Refused c.in-Err.why) c.at_rest.result c.fail-stage.result c.args.built.now.items known c.at_rest.ensures
    (pursue_refused c.args.run c.args.pending (answers.Refused c.in-Err.why) c.in-Err.why c.refusal.result c.block_of-in-Err.result c.fail-stage.result c.args.built.now.items known refl c.refusal.ensures c.block_of-in-Err.ensures c.fail-stage.ensures.goes)

pub returns-in-Err-clause-some : goal.returns-in-Err-clause-some
returns-in-Err-clause-some g c = at_rest_some c.at_rest.result c.fail-stage.result c.args.built.now.items c.at_rest.ensures c.fail-stage.ensures.constant
