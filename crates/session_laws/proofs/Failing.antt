-- What is told of a statement that fails, and of one that comes to its end.
use Rattle.std.proofs.Common.{ℕ, true, false, List}
use Rattle.cell_base.specs.declared.sql_state.SqlState.{SqlState}
use Rattle.cell_base.specs.declared.sql_state.SqlState.TheVariants as states
use Rattle.history_core.specs.declared.fault.BookFault.{BookFault}
use Rattle.pg_framing.specs.declared.replies.TransactionState.{TransactionState}
use Rattle.pg_framing.specs.declared.replies.TransactionState.TheVariants as ready
use Rattle.sql_tree.specs.declared.statement.Statement.{Statement}
use Rattle.statement_course.specs.declared.demand.Outcome.{Outcome}
use Rattle.statement_course.specs.declared.demand.Outcome.TheVariants as outcomes
use Rattle.outcome_replies.specs.Replies.{outcome_reply}
use Rattle.outcome_replies.specs.declared.description.RowDescription.{RowDescription}
use Rattle.block_machine.specs.Knowledge.{Knowledge}
use Rattle.block_machine.specs.Replies.{error_reply}
use Rattle.block_machine.specs.Script.{Script}
use Rattle.block_machine.specs.Statements.{Around, owed_in, succeeds, refused_with, fails, refusal_state, declined, unless_short_in, concludes}
use Rattle.block_machine.specs.declared.block.Block.{Block}
use Rattle.block_machine.specs.declared.block.Block.TheVariants.{Implicit, Regular, Failed}
use Rattle.block_machine.specs.declared.block.Owed.TheVariants as owes
use Rattle.session_laws.specs.Transcripts.{reply_for}
use Rattle.session_laws.proofs.Traces.{Traced, Starts, Answers, AroundTraced, tell_starts, starts_answers, rollback_answers, answers_traced, unless_short_traced}

pub succeeds_answers : (asked : List Statement) (reply : List ℕ) (block : Block) (known : Knowledge) (around : Around) → AroundTraced asked around
    → Answers known.tables asked reply (succeeds reply block known around)
succeeds_answers asked reply block known around h =
    starts_answers known.tables asked reply (succeeds reply block known around)
    (tell_starts known.tables asked reply (around.broken (owed_in block)) (around.succeeded block known) (h.broken known.tables (owed_in block)) (h.succeeded block known))

pub succeeds_traced : (asked : List Statement) (reply : List ℕ) (block : Block) (known : Knowledge) (around : Around) → AroundTraced asked around
    → Traced known.tables asked (succeeds reply block known around)
succeeds_traced asked reply block known around h = answers_traced known.tables asked reply (succeeds reply block known around) (succeeds_answers asked reply block known around h)

refused_starts : (asked : List Statement) (code : SqlState) (state : TransactionState) (known : Knowledge) (around : Around) → AroundTraced asked around
    → Starts known.tables asked (error_reply code) (refused_with code state known around)
refused_starts asked code state known around h =
    tell_starts known.tables asked (error_reply code) (around.broken owes.Close) (around.failed state known) (h.broken known.tables owes.Close) (h.failed state known)

pub fails_answers : (asked : List Statement) (code : SqlState) (block : Block) (known : Knowledge) (around : Around) → AroundTraced asked around
    → Answers known.tables asked (error_reply code) (fails code block known around)
fails_answers asked code (Implicit false) known around h =
    starts_answers known.tables asked (error_reply code) (refused_with code ready.Idle known around) (refused_starts asked code ready.Idle known around h)
fails_answers asked code (Implicit true) known around h =
    rollback_answers known.tables asked (error_reply code) (refused_with code ready.Idle known around) (refused_starts asked code ready.Idle known around h)
fails_answers asked code Regular known around h =
    rollback_answers known.tables asked (error_reply code) (refused_with code ready.Failed known around) (refused_starts asked code ready.Failed known around h)
fails_answers asked code Failed known around h =
    starts_answers known.tables asked (error_reply code) (refused_with code ready.Failed known around) (refused_starts asked code ready.Failed known around h)

pub fails_traced : (asked : List Statement) (code : SqlState) (block : Block) (known : Knowledge) (around : Around) → AroundTraced asked around
    → Traced known.tables asked (fails code block known around)
fails_traced asked code block known around h =
    answers_traced known.tables asked (error_reply code) (fails code block known around) (fails_answers asked code block known around h)

pub declined_traced : (asked : List Statement) (block : Block) (known : Knowledge) (around : Around) (why : BookFault) → AroundTraced asked around
    → Traced known.tables asked (declined block known around why)
declined_traced asked block known around why h = fails_traced asked (refusal_state why) block known around h

pub short_in_traced : (asked : List Statement) (block : Block) (known : Knowledge) (around : Around) (rest : Script) → AroundTraced asked around
    → Traced known.tables asked rest → Traced known.tables asked (unless_short_in block known around rest)
short_in_traced asked block known around rest h r =
    unless_short_traced known.tables asked false (fails states.S53200 block known around) rest (fails_traced asked states.S53200 block known around h) r

pub concludes_answers : (asked : List Statement) (description : RowDescription) (outcome : Outcome) (block : Block) (known : Knowledge) (around : Around)
    → AroundTraced asked around → Answers known.tables asked (reply_for description outcome) (concludes description outcome block known around)
concludes_answers asked description (outcomes.Failed code) block known around h = fails_answers asked code block known around h
concludes_answers asked description (outcomes.Rows fields rows) block known around h =
    succeeds_answers asked (outcome_reply description (outcomes.Rows fields rows)) block known around h
concludes_answers asked description (outcomes.Inserted n) block known around h =
    succeeds_answers asked (outcome_reply description (outcomes.Inserted n)) block known around h
concludes_answers asked description (outcomes.Updated n) block known around h =
    succeeds_answers asked (outcome_reply description (outcomes.Updated n)) block known around h
concludes_answers asked description (outcomes.Deleted n) block known around h =
    succeeds_answers asked (outcome_reply description (outcomes.Deleted n)) block known around h
