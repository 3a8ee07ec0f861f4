-- Steps for which memory was there, and what is known after an answer.
use Rattle.std.proofs.Common.{◌≡◌, ℕ, false, List, refl, sym, subst, inl}
use Rattle.block_machine.specs.declared.call.Answer.{Answer}
use Rattle.block_machine.specs.declared.call.Answer.TheVariants as answers
use Rattle.block_machine.specs.declared.stage.MessageStage.{MessageStage}
use Rattle.block_machine.specs.declared.step.MessageStep.{MessageStep}
use Rattle.block_machine.specs.Knowledge.{Knowledge}
use Rattle.block_machine.specs.Stages.{Advances, IsKnownAfter}

pub advances_at_rest : (stage : MessageStage) (known : Knowledge) (answer : Answer) (step : MessageStep) (next : MessageStage) (built : List ℕ)
    (after : Knowledge) → step ≡ record { stage = next; out_of_memory = false } →
    Advances stage known answer next false built after → Advances stage known answer step.stage step.out_of_memory built after
advances_at_rest stage known answer step next built after is goes =
    subst (λ (s : MessageStep). Advances stage known answer s.stage s.out_of_memory built after) (sym is) goes

-- what holds of its stage
pub stage_at_rest : (P : MessageStage → Type 0) (step : MessageStep) (next : MessageStage) → step ≡ record { stage = next; out_of_memory = false } → P next → P step.stage
stage_at_rest P step next is holds = subst (λ (s : MessageStep). P s.stage) (sym is) holds

-- ---- after an answer

-- no tables were shown
pub known_same : (known : Knowledge) (answer : Answer) → IsKnownAfter known answer known
known_same known (answers.Looked tables) = inl refl
known_same known _ = refl
