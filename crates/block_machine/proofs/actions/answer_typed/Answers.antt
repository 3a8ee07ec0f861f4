use Rattle.std.proofs.Common.{[], sym, ◌∙◌, ap, subst, IfOk}
use Rattle.std.proofs.lemmas.List.Elements.{All-nil}
use Rattle.sound_table.specs.Sound.{IsSound}
use Rattle.statement_course.specs.Course.{Course, first_demand}
use Rattle.statement_course.specs.Statements.{course_of}
use Rattle.outcome_replies.specs.Replies.{CanBeTold}
use Rattle.outcome_replies.proofs.Told.{outcomes_told}
use Rattle.block_machine.specs.Statements.{at_once, concludes}
use Rattle.block_machine.specs.Stages.{IsScriptOf}
use Rattle.block_machine.proofs.Alone.{alone_done}
use Rattle.block_machine.proofs.Answered.{ends_done}
use Rattle.block_machine.proofs.actions.answer_typed.Goals as goal

pub conclude_demand-stage-requires : goal.conclude_demand-stage-requires
conclude_demand-stage-requires c =
    let (outcome, is) = alone_done c.args.alone in
    let (statement, plain, typed) = c.requires in (
      outcome,
      c.demand.ensures ∙ ap first_demand (c.in_ok-plan.ensures ∙ is),
      ends_done CanBeTold (course_of [] c.args.alone) outcome is (outcomes_told [] statement c.args.alone (All-nil IsSound) plain typed),
    )

pub returns-clause-goes : goal.returns-clause-goes
returns-clause-goes c =
    let (outcome, is) = alone_done c.args.alone in
    subst (λ (x : Course). IfOk c.without.result (λ stage. IsScriptOf (at_once c.args.description x c.args.block) stage c.conclude_demand-stage.new.built.items)) (sym is)
    (subst (λ told. IfOk told (λ stage. IsScriptOf (concludes c.args.description outcome c.args.block) stage c.conclude_demand-stage.new.built.items)) (sym c.without.ensures)
    (c.conclude_demand-stage.ensures.goes outcome (c.demand.ensures ∙ ap first_demand (c.in_ok-plan.ensures ∙ is))))
