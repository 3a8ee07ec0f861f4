-- The call that a stage wants is the one that its script asks.
use Rattle.std.proofs.Common.{◌≡◌, ℕ, List, [], refl, ◌∙◌, ap}
use Rattle.cell_compile.specs.Plans.{rest_of}
use Rattle.statement_course.specs.Course.{first_demand}
use Rattle.block_machine.specs.Calls.{Call, MessageWant, call_for}
use Rattle.block_machine.specs.Calls as calls
use Rattle.block_machine.specs.declared.block.Pending.TheVariants as pending
use Rattle.block_machine.specs.declared.stage.MessageStage.{MessageStage}
use Rattle.block_machine.specs.declared.stage.MessageStage.TheVariants as stages
use Rattle.block_machine.specs.Knowledge.{Knowledge}
use Rattle.block_machine.specs.Script.{Said, Next, call}
use Rattle.block_machine.specs.Statements.{Around}
use Rattle.block_machine.specs.Messages.{Outside}
use Rattle.block_machine.specs.Stages.{wants, resumes, block_of}
use Rattle.block_machine.proofs.Answered.{runs_asks}

by_call : (said : Said) (d c : Call) (told : Said × Next) → told ≡ (said, call d) → calls.Book d ≡ calls.Book c → told ≡ (said, call c)
by_call said d c told is h = is ∙ ap (λ (x : Call). (said, call x)) (cc h)

pub asks_call : (stage : MessageStage) (built : List ℕ) (known : Knowledge) (around : Around) (outside : Outside) (said : Said) (c : Call) → wants stage known ≡ calls.Book c →
    resumes stage built known around outside said [] ≡ (said, call c)
asks_call (stages.Resting block) built known around outside said c h = absurd (cc h)
asks_call (stages.Skipping state) built known around outside said c h = absurd (cc h)
asks_call (stages.Over state) built known around outside said c h = absurd (cc h)
asks_call (stages.Defining table block) built known around outside said c h = by_call said _ c _ refl h
asks_call (stages.Refreshing block) built known around outside said c h = by_call said _ c _ refl h
asks_call (stages.Looking statement description block) built known around outside said c h = by_call said _ c _ refl h
asks_call (stages.Beginning plan description) built known around outside said c h = by_call said _ c _ refl h
asks_call (stages.Running run p) built known around outside said c h =
    by_call said (call_for (first_demand (rest_of run.plan))) c _ (runs_asks run.description (rest_of run.plan) (block_of p) known around said run.asks) h
asks_call (stages.Starting words) built known around outside said c h = by_call said _ c _ refl h
asks_call (stages.Showing description block) built known around outside said c h = by_call said _ c _ refl h
asks_call (stages.Committing reply) built known around outside said c h = by_call said _ c _ refl h
asks_call (stages.RollingBack reply) built known around outside said c h = by_call said _ c _ refl h
asks_call (stages.Telling reply block) built known around outside said c h = absurd (cc h)
asks_call (stages.Undoing code pending.Implicit) built known around outside said c h = by_call said _ c _ refl h
asks_call (stages.Undoing code pending.Regular) built known around outside said c h = by_call said _ c _ refl h
asks_call (stages.Failing code state) built known around outside said c h = absurd (cc h)
asks_call (stages.Finishing ready) built known around outside said c h = by_call said _ c _ refl h
asks_call (stages.Readying state) built known around outside said c h = absurd (cc h)
