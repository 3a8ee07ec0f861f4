-- Steps out of memory, and others.
use Rattle.std.proofs.Common.{◌≡◌, ℕ, true, false, List, refl, ◌∙◌, Result, Ok, Err, IfOk}
use Rattle.cell_base.specs.declared.memory.Memory.{Memory}
use Rattle.cell_base.specs.declared.sql_state.SqlState.TheVariants as states
use Rattle.block_machine.specs.declared.block.Block.{Block}
use Rattle.block_machine.specs.declared.block.Pending.{Pending}
use Rattle.block_machine.specs.declared.stage.Run.{Run}
use Rattle.block_machine.specs.declared.stage.MessageStage.{MessageStage}
use Rattle.block_machine.specs.declared.stage.MessageStage.TheVariants as stages
use Rattle.block_machine.specs.Knowledge.{Knowledge}
use Rattle.block_machine.specs.Script.{Script}
use Rattle.block_machine.specs.Statements.{Around, fails, unless_short_in}
use Rattle.block_machine.specs.Stages.{IsScriptAt, IsScriptOf, LeadsTo, IsRunning}
use Rattle.block_machine.proofs.Passes.{passes, takes}

-- there was memory
pub leads_at_rest : (script : Around → Script) (stage : MessageStage) (block : Block) (forgotten : Knowledge) (built : List ℕ) (known : Knowledge) → IsScriptAt script stage built known →
    LeadsTo (λ around. unless_short_in block forgotten around (script around)) stage false built known
leads_at_rest script stage block forgotten built known goes around outside said es from =
    passes (fails states.S53200 block forgotten around) (script around) said es from ∙ goes around outside said es

-- out of memory
pub leads_short : (script : Around → Script) (stage : MessageStage) (block : Block) (built : List ℕ) (known : Knowledge) → IsScriptAt (fails states.S53200 block known) stage built known →
    LeadsTo (λ around. unless_short_in block known around (script around)) stage true built known
leads_short script stage block built known goes around outside said es from =
    takes (fails states.S53200 block known around) (script around) said es ∙ goes around outside said es

pub not_running : (stage : MessageStage) → ((run : Run) (p : Pending) → stage ≡ stages.Running run p → ⊥) → IsRunning stage → ⊥
not_running (stages.Running run p) h r = h run p refl
not_running _ h r = r

-- a script whatever is known, at this
pub ok_at : (r : Result MessageStage Memory) (script : Knowledge → Around → Script) (built : List ℕ) (known : Knowledge) → IfOk r (λ it. IsScriptOf script it built) → IfOk r (λ it. IsScriptAt (script known) it built known)
ok_at (Ok stage) script built known h = h known
ok_at (Err e) script built known h = h
