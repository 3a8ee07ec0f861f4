use Rattle.std.proofs.Common.{◌≡◌, ◌≤◌, List, length, sym, ◌∙◌, ap, arith}
use Rattle.sql_tree.specs.declared.table.Table.{Table}
use Rattle.statement_course.specs.Course.{following}
use Rattle.statement_course.specs.Laws.{ReadsFirst}
use Rattle.cell_compile.specs.Plans.{rest_of, left_of}
use Rattle.block_machine.specs.declared.block.Owed.TheVariants as owes
use Rattle.block_machine.specs.declared.stage.MessageStage.TheVariants as stages
use Rattle.block_machine.specs.Statements.{owed_in}
use Rattle.block_machine.specs.Stages.{KnowsTables, left_at, owed_at}
use Rattle.block_machine.proofs.Answered.{after_first}
use Rattle.block_machine.proofs.Carried.{if_ok}
use Rattle.block_machine.proofs.Pursuing.{owed_pending, demand_fits, pursue_goes, pursue_refused, at_rest_advances, at_rest_some}
use Rattle.block_machine.proofs.courses.pursue.Goals as goal

pub returns-in-Ok-clause-goes : goal.returns-in-Ok-clause-goes
returns-in-Ok-clause-goes c = λ known.
    pursue_goes c.args.run c.args.pending c.args.answer c.in-Ok.answer c.block_of.result c.go_on-stage.result c.or_short.result.stage c.or_short.result.out_of_memory c.go_on-stage.new.built.items known
    c.in-Ok.ensures.ok c.requires.fits c.block_of.ensures c.go_on-stage.ensures.goes c.or_short.ensures.goes

pub returns-in-Ok-clause-owed : goal.returns-in-Ok-clause-owed
returns-in-Ok-clause-owed c =
    let owed : owed_in c.block_of.result ≡ owes.Rollback = ap owed_in c.block_of.ensures ∙ owed_pending c.args.pending in
    c.or_short.ensures.owed (if_ok (λ stage. owed_at stage ≡ owes.Rollback) (λ stage. owed_at stage ≡ owed_in c.block_of.result) c.go_on-stage.result (λ stage h. h ∙ sym owed) c.go_on-stage.ensures.owed) ∙ owed

pub returns-in-Ok-clause-work : goal.returns-in-Ok-clause-work
returns-in-Ok-clause-work c = c.or_short.ensures.work 4 (omega arith) c.go_on-stage.ensures.work

pub returns-in-Ok-clause-left : goal.returns-in-Ok-clause-left
returns-in-Ok-clause-left c =
    let low : left_at c.or_short.result.stage ≤ left_of c.args.run.plan = c.or_short.ensures.left (left_of c.args.run.plan) c.go_on-stage.ensures.left in
    omega arith

pub returns-in-Ok-clause-knows : goal.returns-in-Ok-clause-knows
returns-in-Ok-clause-knows c = λ known first.
    c.or_short.ensures.knows known
    (if_ok (λ stage. (tables : List Table) → ReadsFirst (length tables) (following (rest_of c.args.run.plan) c.in-Ok.answer) → KnowsTables stage tables) (λ stage. KnowsTables stage known) c.go_on-stage.result
    (λ stage knows. knows known (after_first (length known) (rest_of c.args.run.plan) c.in-Ok.answer (demand_fits c.args.run c.args.answer c.in-Ok.answer c.in-Ok.ensures.ok c.requires.fits) first))
    c.go_on-stage.ensures.knows)

pub returns-in-Err-clause-goes : goal.returns-in-Err-clause-goes
returns-in-Err-clause-goes c = λ known.
    at_rest_advances (stages.Running c.args.run c.args.pending) known c.args.answer c.at_rest.result c.fail.result c.args.built.now.items known c.at_rest.ensures
    (pursue_refused c.args.run c.args.pending c.args.answer c.in-Err.why c.refusal.result c.block_of-in-Err.result c.fail.result c.args.built.now.items known c.in-Err.ensures.err c.refusal.ensures c.block_of-in-Err.ensures c.fail.ensures.goes)

pub returns-in-Err-clause-some : goal.returns-in-Err-clause-some
returns-in-Err-clause-some c = at_rest_some c.at_rest.result c.fail.result c.args.built.now.items c.at_rest.ensures c.fail.ensures.constant
