-- A reply that is held has bytes, and what is told of it.
use Rattle.std.proofs.Common.{◌≡◌, ℕ, ◌<◌, List, length, refl, subst, sym}
use Rattle.sql_tree.specs.declared.statement.Statement.{Statement}
use Rattle.sql_tree.specs.declared.table.Table.{Table}
use Rattle.block_machine.specs.declared.block.Block.{Block}
use Rattle.block_machine.specs.declared.reply.StatementReply.TheVariants as replies
use Rattle.block_machine.specs.declared.stage.MessageStage.{MessageStage}
use Rattle.block_machine.specs.declared.stage.MessageStage.TheVariants as stages
use Rattle.block_machine.specs.Knowledge.{Knowledge}
use Rattle.block_machine.specs.Script.{Said, Entry, tell}
use Rattle.block_machine.specs.Statements.{Around}
use Rattle.block_machine.specs.Messages.{Outside}
use Rattle.block_machine.specs.Stages.{NoBuilt, HasReply, IsHolding, reply_of, after_reply, after_sent, breaks, owed_at, goes_on, resumes, IsQuiet, IsRunning, IsSoundStage, KnowsTables}
use Rattle.block_machine.proofs.Somes.{fixed_some, error_some, ready_some}

pub holding_some : (built : List ℕ) (stage : MessageStage) → NoBuilt stage → HasReply stage built
holding_some built (stages.Telling replies.Built block) h k = absurd h
holding_some built (stages.Telling (replies.Fixed reply) block) h k = fixed_some reply
holding_some built (stages.Failing code state) h k = error_some code
holding_some built (stages.Readying state) h k = ready_some state
holding_some built _ h k = absurd k

-- the reply that was built has bytes
pub built_some : (built reply : List ℕ) (block : Block) → built ≡ reply → 0 < length reply → HasReply (stages.Telling replies.Built block) built
built_some built reply block is some k = subst (λ (bytes : List ℕ). 0 < length bytes) (sym is) some

-- a held reply is told
pub holding_tells : (stage : MessageStage) (built : List ℕ) (known : Knowledge) (around : Around) (outside : Outside) (said : Said) (es : List Entry) → IsHolding stage →
    resumes stage built known around outside said es ≡ tell (reply_of built stage) (breaks stage around outside (owed_at stage)) (after_sent stage known around outside) said es
holding_tells (stages.Telling reply block) built known around outside said es h = refl
holding_tells (stages.Failing code state) built known around outside said es h = refl
holding_tells (stages.Readying state) built known around outside said es h = refl
holding_tells _ built known around outside said es h = absurd h

-- in a query message
pub message_tells : (stage : MessageStage) (built : List ℕ) (known : Knowledge) (more : List Statement) (outside : Outside) (said : Said) (es : List Entry) → IsHolding stage →
    goes_on stage built known more outside said es ≡ tell (reply_of built stage) (outside.broken (owed_at stage)) (after_reply stage known more outside) said es
message_tells (stages.Telling reply block) built known more outside said es h = refl
message_tells (stages.Failing code state) built known more outside said es h = refl
message_tells (stages.Readying state) built known more outside said es h = refl
message_tells _ built known more outside said es h = absurd h

-- ---- what holds where neither a table nor a statement is kept

pub quiet_knows : (stage : MessageStage) → IsQuiet stage → (known : List Table) → KnowsTables stage known
quiet_knows (stages.Beginning plan description) h known = absurd h
quiet_knows (stages.Running run p) h known = absurd h
quiet_knows _ h known = tt

pub quiet_sound : (stage : MessageStage) → IsQuiet stage → IsSoundStage stage
quiet_sound (stages.Defining table block) h = absurd h
quiet_sound (stages.Looking statement description block) h = absurd h
quiet_sound (stages.Beginning plan description) h = absurd h
quiet_sound (stages.Running run p) h = absurd h
quiet_sound _ h = tt

pub quiet_silent : (stage : MessageStage) → IsQuiet stage → IsRunning stage → ⊥
quiet_silent (stages.Running run p) h r = h
quiet_silent _ h r = r
