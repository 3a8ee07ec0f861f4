-- A message's script agrees with itself where what stands outside does.
use Rattle.std.proofs.Common.{true, false, List, [], ◌∷◌}
use Rattle.pg_framing.specs.declared.replies.TransactionState.{TransactionState}
use Rattle.pg_framing.specs.declared.replies.TransactionState.TheVariants as ready
use Rattle.sql_tree.specs.declared.statement.Statement.{Statement}
use Rattle.outcome_replies.specs.declared.description.RowDescription.TheVariants as described
use Rattle.block_machine.specs.declared.end.End.{End}
use Rattle.block_machine.specs.Calls as calls
use Rattle.block_machine.specs.Knowledge.{Knowledge}
use Rattle.block_machine.specs.Replies.{ready_reply, empty_reply}
use Rattle.block_machine.specs.Messages as told
use Rattle.block_machine.specs.Messages.{Outside, owed_between, block_at, before}
use Rattle.block_machine.specs.declared.block.Block.{Block}
use Rattle.block_machine.specs.declared.block.Block.TheVariants.{Implicit, Regular, Failed}
use Rattle.block_machine.specs.declared.block.Owed.{Owed}
use Rattle.block_machine.specs.declared.message.Message.{Message}
use Rattle.block_machine.specs.declared.message.Message.TheVariants as messages
use Rattle.program_laws.proofs.Rides.{Agree, Breaks, tell_agrees}
use Rattle.program_laws.proofs.Turning.{ask_agrees}
use Rattle.program_laws.proofs.Statements.{Alike, succeeds, fails, told_of}

-- what stands outside a message agrees
pub record Beside (E : End → Type 0) (x y : Outside) : Type 0 where
  pub next : (state : TransactionState) (k : Knowledge) → Agree E (x.next state k) (y.next state k)
  pub left : (owed : Owed) → Breaks (x.broken owed)
  pub right : (owed : Owed) → Breaks (y.broken owed)

pub readied : (E : End → Type 0) → (x y : Outside) → Beside E x y → (state : TransactionState) (known : Knowledge) →
    Agree E (told.readied state known x) (told.readied state known y)
readied E x y h state known =
    tell_agrees E (ready_reply state) (x.broken (owed_between state)) (y.broken (owed_between state)) (x.next state known) (y.next state known)
    (h.left (owed_between state)) (h.right (owed_between state)) (h.next state known)

ends : (E : End → Type 0) → (x y : Outside) → Beside E x y → (block : Block) (known : Knowledge) → Agree E (told.ends block known x) (told.ends block known y)
ends E x y h (Implicit false) known = readied E x y h ready.Idle known
ends E x y h (Implicit true) known =
    ask_agrees E calls.Commit (λ _. told.readied ready.Idle known x) (λ _. told.readied ready.Idle known y) (λ _. readied E x y h ready.Idle known)
ends E x y h Regular known = readied E x y h ready.Block known
ends E x y h Failed known = readied E x y h ready.Failed known

statements : (E : End → Type 0) → (x y : Outside) → Beside E x y → (list : List Statement) (block : Block) (known : Knowledge) →
    Agree E (told.statements list block known x) (told.statements list block known y)
statements E x y h [] block known = ends E x y h block known
statements E x y h (s ∷ more) block known =
    told_of E (before more x) (before more y)
    (record {
      succeeded = λ b k. statements E x y h more b k;
      failed = λ state k. readied E x y h state k;
      left = h.left;
      right = h.right;
    })
    described.Told s block known

-- before other statements, and before the end
pub alike : (E : End → Type 0) → (x y : Outside) → Beside E x y → (more : List Statement) → Alike E (before more x) (before more y)
alike E x y h more = record {
  succeeded = λ b k. statements E x y h more b k;
  failed = λ state k. readied E x y h state k;
  left = h.left;
  right = h.right;
}

opens : (E : End → Type 0) → (x y : Outside) → Beside E x y → (list : List Statement) (block : Block) (known : Knowledge) →
    Agree E (told.opens list block known x) (told.opens list block known y)
opens E x y h [] block known = succeeds E (before [] x) (before [] y) (alike E x y h []) empty_reply block known
opens E x y h (s ∷ more) block known = statements E x y h (s ∷ more) block known

pub message : (E : End → Type 0) → (x y : Outside) → Beside E x y → (asked : Message) (state : TransactionState) (known : Knowledge) →
    Agree E (told.message asked state known x) (told.message asked state known y)
message E x y h (messages.Unread code) state known = fails E (before [] x) (before [] y) (alike E x y h []) code (block_at state) known
message E x y h (messages.Statements asked) state known = opens E x y h asked (block_at state) known
