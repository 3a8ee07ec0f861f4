-- A message's script keeps to the rules where what stands outside does.
use Rattle.std.proofs.Common.{true, false, List, [], ◌∷◌}
use Rattle.pg_framing.specs.declared.replies.TransactionState.{TransactionState}
use Rattle.pg_framing.specs.declared.replies.TransactionState.TheVariants as ready
use Rattle.sql_tree.specs.declared.statement.Statement.{Statement}
use Rattle.outcome_replies.specs.declared.description.RowDescription.TheVariants as described
use Rattle.block_machine.specs.Calls as calls
use Rattle.block_machine.specs.Knowledge.{Knowledge}
use Rattle.block_machine.specs.Replies.{ready_reply, empty_reply}
use Rattle.block_machine.specs.Messages as told
use Rattle.block_machine.specs.Messages.{Outside, owed_between, block_at, before}
use Rattle.block_machine.specs.declared.block.Block.{Block}
use Rattle.block_machine.specs.declared.block.Block.TheVariants.{Implicit, Regular, Failed}
use Rattle.block_machine.specs.declared.block.Owed.{Owed}
use Rattle.block_machine.specs.declared.message.Message.{Message}
use Rattle.block_machine.specs.declared.message.Message.TheVariants as messages
use Rattle.session_laws.proofs.Rules.{Rules, AreFit, Keeps, ask_keeps, tell_keeps}
use Rattle.session_laws.proofs.StatementsKept.{Surrounds, may_fail, succeeds, fails, told_of}

-- what stands outside a message keeps to the rules
pub record Encloses (r : Rules) (outside : Outside) : Type 0 where
  pub next : (s : r.State) (state : TransactionState) (k : Knowledge) → r.Resting s k → Keeps r s (outside.next state k)
  pub broken : (s : r.State) (owed : Owed) (k : Knowledge) → r.Resting s k → Keeps r s (outside.broken owed)

pub readied : (r : Rules) → (outside : Outside) → Encloses r outside → (s : r.State) (state : TransactionState) (known : Knowledge) → r.Resting s known →
    Keeps r s (told.readied state known outside)
readied r outside h s state known resting =
    tell_keeps r s (ready_reply state) (outside.broken (owed_between state)) (outside.next state known) (h.broken s (owed_between state) known resting)
    (h.next s state known resting)

ends : (r : Rules) → AreFit r → (outside : Outside) → Encloses r outside → (s : r.State) (block : Block) (known : Knowledge) → r.Resting s known →
    Keeps r s (told.ends block known outside)
ends r fit outside h s (Implicit false) known resting = readied r outside h s ready.Idle known resting
ends r fit outside h s (Implicit true) known resting =
    let asks = fit.commits s known resting in
    ask_keeps r s calls.Commit (λ _. told.readied ready.Idle known outside) asks.0
    (λ a. readied r outside h (r.next s calls.Commit a) ready.Idle known (asks.1 a))
ends r fit outside h s Regular known resting = readied r outside h s ready.Block known resting
ends r fit outside h s Failed known resting = readied r outside h s ready.Failed known resting

statements : (r : Rules) → AreFit r → (outside : Outside) → Encloses r outside → (list : List Statement) (s : r.State) (block : Block) (known : Knowledge) → r.Resting s known →
    Keeps r s (told.statements list block known outside)
statements r fit outside h [] s block known resting = ends r fit outside h s block known resting
statements r fit outside h (statement ∷ more) s block known resting =
    told_of r fit (before more outside)
    (record {
      succeeded = λ state b k is. statements r fit outside h more state b k is;
      failed = λ state after k is. readied r outside h state after k is;
      broken = h.broken;
    })
    described.Told statement s block known resting

-- before other statements, and before the end
pub surrounds : (r : Rules) → AreFit r → (outside : Outside) → Encloses r outside → (more : List Statement) → Surrounds r (before more outside)
surrounds r fit outside h more = record {
  succeeded = λ state b k is. statements r fit outside h more state b k is;
  failed = λ state after k is. readied r outside h state after k is;
  broken = h.broken;
}

opens : (r : Rules) → AreFit r → (outside : Outside) → Encloses r outside → (list : List Statement) (s : r.State) (block : Block) (known : Knowledge) → r.Resting s known →
    Keeps r s (told.opens list block known outside)
opens r fit outside h [] s block known resting = succeeds r (before [] outside) (surrounds r fit outside h []) s empty_reply block known resting
opens r fit outside h (statement ∷ more) s block known resting = statements r fit outside h (statement ∷ more) s block known resting

pub message : (r : Rules) → AreFit r → (outside : Outside) → Encloses r outside → (asked : Message) (s : r.State) (state : TransactionState) (known : Knowledge) → r.Resting s known →
    Keeps r s (told.message asked state known outside)
message r fit outside h (messages.Unread code) s state known resting =
    fails r (before [] outside) (surrounds r fit outside h []) s code (block_at state) known (may_fail r fit s known (block_at state) resting)
message r fit outside h (messages.Statements asked) s state known resting = opens r fit outside h asked s (block_at state) known resting
