-- An end by a failed write is nearer than the reply was.
use Rattle.std.proofs.Common.{◌≡◌, ◌<◌, ◌≤◌, ℕ, refl, arith}
use Rattle.block_machine.specs.declared.block.Owed.TheVariants as owes
use Rattle.block_machine.specs.declared.message_runner.MessageRunner.{MessageRunner}
use Rattle.session_core.specs.declared.stage.SessionStage.{SessionStage}
use Rattle.session_core.specs.declared.stage.SessionStage.TheVariants as stages
use Rattle.session_core.specs.Stands.{IsHolding, owed_at, work_at}

pub holding_more : (stage : SessionStage) (r : MessageRunner) (n : ℕ) → IsHolding stage r → n ≤ 3 → (owed_at stage r ≡ owes.Nothing → n ≡ 0) →
    n < work_at stage
holding_more stages.Running r n h le none = omega (arith, le)
holding_more (stages.Telling reply) r n h le none = omega (arith, le)
holding_more (stages.Parting fatal) r n h le none = omega (arith, none refl)
holding_more _ r n h le none = absurd h
