-- What stands between a call whose effect lasts and a lack of memory after it: the reply that tells it.
use Rattle.std.specs.Prelude.{◌≡◌, ◌≢◌, ◌⊎◌, ◌≤◌, ℕ, List, ◌∷◌, ◌++◌, length, Bool}
use Rattle.cell_base.specs.declared.level.Level.{Level}
use Rattle.cell_base.specs.declared.sql_state.SqlState.{SqlState}
use Rattle.history_core.specs.declared.event.Event.{Event}
use Rattle.history_core.specs.declared.fault.DefineAnswer.TheVariants as defines
use Rattle.pg_framing.specs.declared.replies.TransactionState.TheVariants as ready
use Rattle.block_machine.specs.Calls.{Call}
use Rattle.block_machine.specs.Calls as calls
use Rattle.block_machine.specs.Replies.{ready_reply, error_reply, created_reply, commit_reply, rollback_reply, needless_commit_reply, needless_rollback_reply}
use Rattle.block_machine.specs.Script.{Entry, did, short, Said, Next, call, astray}
use Rattle.block_machine.specs.declared.call.Answer.{Answer}
use Rattle.block_machine.specs.declared.call.Answer.TheVariants as answers
use Rattle.session_core.specs.Requests.{Requests}
use Rattle.session_core.specs.Record.{may_be_refused}
use Rattle.session_core.specs.Told.{told}

-- the call defined a table, or it committed a transaction or rolled one back
abbrev pub HasToBeTold : Call → Answer → Type 0
HasToBeTold (calls.Define table) (answers.Defined (defines.Defined n)) = Unit {0}
HasToBeTold calls.Commit answers.Committed = Unit {0}
HasToBeTold calls.Rollback answers.RolledBack = Unit {0}
HasToBeTold _ _ = ⊥

-- The replies that tell it: CommandComplete of CREATE TABLE; that of COMMIT, or the ReadyForQuery of a message that is its own transaction;
-- that of ROLLBACK, or the ErrorResponse of the statement that failed.
abbrev pub Tells : Call → List ℕ → Type 0
Tells (calls.Define table) reply = reply ≡ created_reply
Tells calls.Commit reply = (reply ≡ commit_reply) ⊎ (reply ≡ needless_commit_reply) ⊎ (reply ≡ ready_reply ready.Idle)
Tells calls.Rollback reply = (reply ≡ rollback_reply) ⊎ (reply ≡ needless_rollback_reply) ⊎ ((code : SqlState) × (reply ≡ error_reply code))
Tells _ reply = ⊥

-- Following what had been told when the call was asked, its reply is told next; and all of it stands within the first bytes, so many.
pub record IsToldWithin (c : Call) (before : List ℕ) (n : ℕ) (whole : List ℕ) : Type 0 where
  pub reply : List ℕ
  pub following : List ℕ
  pub tells : Tells c reply
  pub whole_is : whole ≡ before ++ (reply ++ following)
  pub within : length (before ++ reply) ≤ n

-- Where a session's record has a lack of memory of the session's own anywhere after the answer of such a call, the reply had been told by
-- then: it stands within the bytes that the lack says were told.
abbrev pub RepliesComeBeforeLacks : Type 0
RepliesComeBeforeLacks =
    (level : Level) (requests : Requests) (before between after : List Entry) (c : Call) (answer : Answer) (event : Event) (final : Bool) (n : ℕ)
    (asked said : Said) (next : Next) → HasToBeTold c answer
    → told level requests before ≡ (asked, call c)
    → told level requests (before ++ did answer event ∷ (between ++ short final n ∷ after)) ≡ (said, next) → next ≢ astray
    → IsToldWithin c asked.bytes n said.bytes

-- Where a call that may be refused is asked anywhere after such an answer, the reply had been told before. So no lack of memory of the book
-- stands between them.
abbrev pub RepliesComeBeforeRefusals : Type 0
RepliesComeBeforeRefusals =
    (level : Level) (requests : Requests) (before between : List Entry) (c further : Call) (answer : Answer) (event : Event) (asked said : Said)
    → HasToBeTold c answer → may_be_refused further
    → told level requests before ≡ (asked, call c)
    → told level requests (before ++ did answer event ∷ between) ≡ (said, call further)
    → IsToldWithin c asked.bytes (length said.bytes) said.bytes
