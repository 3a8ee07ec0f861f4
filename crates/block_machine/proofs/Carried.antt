-- What holds of the stage that a call made.
use Rattle.std.proofs.Common.{◌≡◌, ◌≤◌, ◌+◌, ℕ, refl, arith, Result, Ok, Err, IfOk}
use Rattle.cell_base.specs.declared.memory.Memory.{Memory}
use Rattle.block_machine.specs.declared.stage.MessageStage.{MessageStage}
use Rattle.block_machine.specs.declared.stage.MessageStage.TheVariants as stages
use Rattle.block_machine.specs.Stages.{IsQuiet, IsRunning, running_at, work_at}

pub if_ok : (P Q : MessageStage → Type 0) (r : Result MessageStage Memory) → ((stage : MessageStage) → P stage → Q stage) → IfOk r P → IfOk r Q
if_ok P Q (Ok stage) f h = f stage h
if_ok P Q (Err e) f h = h

pub quiet_running : (stage : MessageStage) → IsQuiet stage → running_at stage ≡ 0
quiet_running (stages.Running run p) h = absurd h
quiet_running _ h = refl

pub running_silent : (stage : MessageStage) → (IsRunning stage → ⊥) → running_at stage ≡ 0
running_silent (stages.Running run p) h = absurd (h tt)
running_silent _ h = refl

-- the work of a stage that may have been out of memory, where none runs
pub work_still : (n : ℕ) (r : Result MessageStage Memory) (next : MessageStage) → 3 ≤ n → IfOk r (λ it. work_at it ≤ n) →
    ((m : ℕ) → 3 ≤ m → IfOk r (λ it. work_at it ≤ m + running_at it) → work_at next ≤ m + running_at next) → running_at next ≡ 0 → work_at next ≤ n
work_still n r next enough low work still =
    let all : work_at next ≤ n + running_at next = work n enough (if_ok (λ it. work_at it ≤ n) (λ it. work_at it ≤ n + running_at it) r (λ it k. omega (arith, k)) low) in
    omega (arith, all, still)
