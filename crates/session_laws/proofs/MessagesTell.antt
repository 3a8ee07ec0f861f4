-- What a message's script tells after the answers whose effect has to be told, where what stands outside does so.
use Rattle.std.proofs.Common.{inr, refl, true, false, List, [], ◌∷◌}
use Rattle.pg_framing.specs.declared.replies.TransactionState.{TransactionState}
use Rattle.pg_framing.specs.declared.replies.TransactionState.TheVariants as ready
use Rattle.sql_tree.specs.declared.statement.Statement.{Statement}
use Rattle.outcome_replies.specs.declared.description.RowDescription.TheVariants as described
use Rattle.block_machine.specs.Calls as calls
use Rattle.block_machine.specs.Knowledge.{Knowledge}
use Rattle.block_machine.specs.Replies.{ready_reply, empty_reply}
use Rattle.block_machine.specs.Messages as told
use Rattle.block_machine.specs.Messages.{Outside, owed_between, block_at, before}
use Rattle.block_machine.specs.declared.block.Block.{Block}
use Rattle.block_machine.specs.declared.block.Block.TheVariants.{Implicit, Regular, Failed}
use Rattle.block_machine.specs.declared.block.Owed.{Owed}
use Rattle.block_machine.specs.declared.block.Owed.TheVariants as owes
use Rattle.block_machine.specs.declared.message.Message.{Message}
use Rattle.block_machine.specs.declared.message.Message.TheVariants as messages
use Rattle.session_laws.proofs.MemoryScripts.{Fit, ask_fits, tell_fits, tell_replies}
use Rattle.session_laws.proofs.StatementsTell.{Surrounds, succeeds, fails, told_of}

-- what stands outside a message does so
pub record Encloses (outside : Outside) : Type 0 where
  pub next : (state : TransactionState) (k : Knowledge) → Fit (outside.next state k)
  pub broken : (owed : Owed) → Fit (outside.broken owed)

pub readied : (outside : Outside) → Encloses outside → (state : TransactionState) (known : Knowledge) →
    Fit (told.readied state known outside)
readied outside h state known =
    tell_fits (ready_reply state) (outside.broken (owed_between state)) (outside.next state known) (h.broken (owed_between state)) (h.next state known)

ends : (outside : Outside) → Encloses outside → (block : Block) (known : Knowledge) → Fit (told.ends block known outside)
ends outside h (Implicit false) known = readied outside h ready.Idle known
ends outside h (Implicit true) known =
    ask_fits calls.Commit (λ _. told.readied ready.Idle known outside) (λ a. readied outside h ready.Idle known)
    (λ a has. tell_replies calls.Commit (ready_reply ready.Idle) (outside.broken owes.Close) (outside.next ready.Idle known) (inr (inr refl)) (h.broken owes.Close) (h.next ready.Idle known))
ends outside h Regular known = readied outside h ready.Block known
ends outside h Failed known = readied outside h ready.Failed known

statements : (outside : Outside) → Encloses outside → (list : List Statement) (block : Block) (known : Knowledge) →
    Fit (told.statements list block known outside)
statements outside h [] block known = ends outside h block known
statements outside h (statement ∷ more) block known =
    told_of (before more outside)
    (record {
      succeeded = λ b k. statements outside h more b k;
      failed = λ state k. readied outside h state k;
      broken = h.broken;
    })
    described.Told statement block known

surrounds : (outside : Outside) → Encloses outside → (more : List Statement) → Surrounds (before more outside)
surrounds outside h more = record {
  succeeded = λ b k. statements outside h more b k;
  failed = λ state k. readied outside h state k;
  broken = h.broken;
}

opens : (outside : Outside) → Encloses outside → (list : List Statement) (block : Block) (known : Knowledge) →
    Fit (told.opens list block known outside)
opens outside h [] block known = succeeds (before [] outside) (surrounds outside h []) empty_reply block known
opens outside h (statement ∷ more) block known = statements outside h (statement ∷ more) block known

pub message : (outside : Outside) → Encloses outside → (asked : Message) (state : TransactionState) (known : Knowledge) →
    Fit (told.message asked state known outside)
message outside h (messages.Unread code) state known =
    fails (before [] outside) (surrounds outside h []) code (block_at state) known
message outside h (messages.Statements asked) state known = opens outside h asked (block_at state) known
