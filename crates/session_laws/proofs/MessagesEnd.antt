-- What a message's script ends in, where what stands outside ends so.
use Rattle.std.proofs.Common.{true, false, List, [], ◌∷◌}
use Rattle.pg_framing.specs.declared.replies.TransactionState.{TransactionState}
use Rattle.pg_framing.specs.declared.replies.TransactionState.TheVariants as ready
use Rattle.sql_tree.specs.declared.statement.Statement.{Statement}
use Rattle.outcome_replies.specs.declared.description.RowDescription.TheVariants as described
use Rattle.block_machine.specs.Calls as calls
use Rattle.block_machine.specs.Knowledge.{Knowledge}
use Rattle.block_machine.specs.Replies.{ready_reply, empty_reply}
use Rattle.block_machine.specs.Messages as told
use Rattle.block_machine.specs.Messages.{Outside, owed_between, block_at, before}
use Rattle.block_machine.specs.Script.{Entry}
use Rattle.block_machine.specs.declared.block.Block.{Block}
use Rattle.block_machine.specs.declared.block.Block.TheVariants.{Implicit, Regular, Failed}
use Rattle.block_machine.specs.declared.block.Owed.{Owed}
use Rattle.block_machine.specs.declared.end.End.{End}
use Rattle.block_machine.specs.declared.end.End.TheVariants as ends_of
use Rattle.block_machine.specs.declared.message.Message.{Message}
use Rattle.block_machine.specs.declared.message.Message.TheVariants as messages
use Rattle.session_laws.proofs.EndScripts.{Why, Is, IsFit, EndsIn, ask_ends, tell_ends}
use Rattle.session_laws.proofs.StatementsEnd.{Surrounds, succeeds, fails, told_of}

-- what stands outside a message ends so
pub record Encloses (P : End → List Entry → Type 0) (outside : Outside) : Type 0 where
  pub next : (state : TransactionState) (k : Knowledge) → EndsIn P (outside.next state k)
  pub broken : (owed : Owed) → EndsIn (Is ends_of.WriteFault) (outside.broken owed)

pub readied : (P : Why) → IsFit P → (outside : Outside) → Encloses P outside → (state : TransactionState) (known : Knowledge) →
    EndsIn P (told.readied state known outside)
readied P fit outside h state known =
    tell_ends P fit (ready_reply state) (outside.broken (owed_between state)) (outside.next state known) (h.broken (owed_between state)) (h.next state known)

ends : (P : Why) → IsFit P → (outside : Outside) → Encloses P outside → (block : Block) (known : Knowledge) → EndsIn P (told.ends block known outside)
ends P fit outside h (Implicit false) known = readied P fit outside h ready.Idle known
ends P fit outside h (Implicit true) known =
    ask_ends P fit calls.Commit (λ _. told.readied ready.Idle known outside) (λ a. readied P fit outside h ready.Idle known)
ends P fit outside h Regular known = readied P fit outside h ready.Block known
ends P fit outside h Failed known = readied P fit outside h ready.Failed known

statements : (P : Why) → IsFit P → (outside : Outside) → Encloses P outside → (list : List Statement) (block : Block) (known : Knowledge) →
    EndsIn P (told.statements list block known outside)
statements P fit outside h [] block known = ends P fit outside h block known
statements P fit outside h (statement ∷ more) block known =
    told_of P fit (before more outside)
    (record {
      succeeded = λ b k. statements P fit outside h more b k;
      failed = λ state k. readied P fit outside h state k;
      broken = h.broken;
    })
    described.Told statement block known

surrounds : (P : Why) → IsFit P → (outside : Outside) → Encloses P outside → (more : List Statement) → Surrounds P (before more outside)
surrounds P fit outside h more = record {
  succeeded = λ b k. statements P fit outside h more b k;
  failed = λ state k. readied P fit outside h state k;
  broken = h.broken;
}

opens : (P : Why) → IsFit P → (outside : Outside) → Encloses P outside → (list : List Statement) (block : Block) (known : Knowledge) →
    EndsIn P (told.opens list block known outside)
opens P fit outside h [] block known = succeeds P fit (before [] outside) (surrounds P fit outside h []) empty_reply block known
opens P fit outside h (statement ∷ more) block known = statements P fit outside h (statement ∷ more) block known

pub message : (P : Why) → IsFit P → (outside : Outside) → Encloses P outside → (asked : Message) (state : TransactionState) (known : Knowledge) →
    EndsIn P (told.message asked state known outside)
message P fit outside h (messages.Unread code) state known =
    fails P fit (before [] outside) (surrounds P fit outside h []) code (block_at state) known
message P fit outside h (messages.Statements asked) state known = opens P fit outside h asked (block_at state) known
