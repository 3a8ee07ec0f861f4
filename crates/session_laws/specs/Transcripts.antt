-- When acts are a session's transcript: each call of a cell that was answered is a step of a statement that ran, and what was told after
-- a statement is what it came to.
use Rattle.std.specs.Prelude.{◌≡◌, ◌⊎◌, ℕ, ⊤, length, List, [], ◌∷◌, ◌++◌, true, false, Ok}
use Rattle.cell_base.specs.declared.sql_state.SqlState.TheVariants as states
use Rattle.history_core.specs.declared.fault.BookFault.{BookFault}
use Rattle.sql_tree.specs.declared.statement.Statement.{Statement}
use Rattle.sql_tree.specs.declared.table.Table.{Table}
use Rattle.typing_rules.specs.Typed.{typed}
use Rattle.statement_course.specs.declared.demand.Outcome.{Outcome}
use Rattle.statement_course.specs.declared.demand.Outcome.TheVariants as outcomes
use Rattle.statement_course.specs.Course.{Course, done, first_demand}
use Rattle.statement_course.specs.Statements.{course_of}
use Rattle.outcome_replies.specs.Replies.{outcome_reply}
use Rattle.outcome_replies.specs.declared.description.RowDescription.{RowDescription}
use Rattle.outcome_replies.specs.declared.description.RowDescription.TheVariants as described
use Rattle.block_machine.specs.Calls.{Call, asks_cells, call_for}
use Rattle.block_machine.specs.Calls as calls
use Rattle.block_machine.specs.Script.{Entry, did, refused, short, unsent, stop, Next, call, astray}
use Rattle.block_machine.specs.Replies.{error_reply}
use Rattle.block_machine.specs.Statements.{refusal_state}
use Rattle.block_machine.specs.declared.call.Answer.TheVariants as answers
use Rattle.statement_laws.specs.Runs.{Ran}
use Rattle.session_laws.specs.Acts.{Run, Act, tells, asks, meets, runs, AreAnswers}

-- ---- what is told of a statement

-- the reply is told next: at once, or after the rollback of its transaction; or the record ends before
pub data Replies (reply : List ℕ) : List Act → Next → Type 0 where
  at_once : (acts : List Act) (next : Next) → Replies reply (tells reply ∷ acts) next
  rolled_back : (entry : Entry) (acts : List Act) (next : Next) → Replies reply (asks calls.Rollback entry ∷ tells reply ∷ acts) next
  unsaid : Replies reply [] (call calls.Rollback)
  lost_before : (acts : List Act) → Replies reply acts astray

-- what a statement that came to this is told
abbrev pub reply_for : RowDescription → Outcome → List ℕ
reply_for description (outcomes.Failed code) = error_reply code
reply_for description outcome = outcome_reply description outcome

abbrev pub Refuses : Entry → BookFault → Type 0
Refuses (refused fault) why = why ≡ fault
Refuses (did (answers.Refused fault) event) why = why ≡ fault
Refuses _ why = ⊥

-- how a statement's run ended, by what was left of its course, and what came after it
pub data Ends (description : RowDescription) : Course → List Act → Next → Type 0 where
  -- nothing was left, and it was told what it came to
  finished : (outcome : Outcome) (acts : List Act) (next : Next) → Replies (reply_for description outcome) acts next
      → Ends description (done outcome) acts next
  -- its next call was refused, and it was told why
  declined : (left : Course) (entry : Entry) (why : BookFault) (acts : List Act) (next : Next) → asks_cells (first_demand left) ≡ true
      → Refuses entry why → Replies (error_reply (refusal_state why)) acts next
      → Ends description left (asks (call_for (first_demand left)) entry ∷ acts) next
  -- memory ran out in the session itself, and it was told so
  short_of : (left : Course) (n : ℕ) (acts : List Act) (next : Next) → Replies (error_reply states.S53200) acts next
      → Ends description left (meets (short false n) ∷ acts) next
  -- its next call wasn't answered yet
  unanswered : (left : Course) → asks_cells (first_demand left) ≡ true → Ends description left [] (call (call_for (first_demand left)))
  -- an entry stands there that doesn't belong there
  misplaced : (left : Course) (acts : List Act) → Ends description left acts astray

-- ---- the transcript

-- A statement's course, over the tables that the session knows, made the demands and got the answers that the entries hold. A SELECT
-- without FROM is typed over no table, and asks for nothing.
pub record IsStatementRun (known : List Table) (r : Run) : Type 0 where
  pub over : (r.tables ≡ known) ⊎ ((r.tables ≡ []) × (r.steps ≡ []))
  pub types : typed r.tables r.statement ≡ Ok r.typed
  pub ran : Ran (course_of r.tables r.typed) r.steps r.left
  pub answered : AreAnswers r.steps r.entries

-- The entry is a refusal of the call, or an answer; but not the answer to a call of a cell, which stands in a run.
abbrev pub IsOther : Call → Entry → Type 0
IsOther c (refused why) = ⊤
IsOther c (short final n) = ⊥
IsOther c (unsent n) = ⊥
IsOther c (stop cause) = ⊥
IsOther (calls.Scan table) (did (answers.Listed keys) event) = ⊥
IsOther (calls.Touch cell) (did (answers.Found value) event) = ⊥
IsOther (calls.Write cell value) (did answers.Written event) = ⊥
IsOther c (did answer event) = ⊤

-- the entry is no call's
abbrev pub IsNote : Entry → Type 0
IsNote (short final n) = ⊤
IsNote (unsent n) = ⊤
IsNote (stop cause) = ⊤
IsNote _ = ⊥

-- The tables that a session knows after a call. A look shows those after the ones that it knew; where memory runs out at once, it forgets
-- them again.
abbrev pub Learns : List Table → Call → Entry → List Table → Type 0
Learns known (calls.Look number) (did (answers.Looked tables) event) after = (number ≡ length known) × ((after ≡ known ++ tables) ⊎ (after ≡ known))
Learns known _ _ after = after ≡ known

-- The acts of a session that knows these tables and is asked these statements: those that ran are some of them, in order, and each ended as
-- above. Rows are told with their RowDescription.
abbrev pub IsTranscript : List Table → List Statement → List Act → Next → Type 0
IsTranscript known asked [] next = ⊤
IsTranscript known asked (tells bytes ∷ acts) next = IsTranscript known asked acts next
IsTranscript known asked (asks c entry ∷ acts) next =
    (after : List Table) × IsOther c entry × Learns known c entry after × IsTranscript after asked acts next
IsTranscript known asked (meets entry ∷ acts) next = IsNote entry × IsTranscript known asked acts next
IsTranscript known asked (runs r ∷ acts) next =
    (skipped : List Statement) × (later : List Statement) × (asked ≡ skipped ++ r.statement ∷ later)
    × IsStatementRun known r × Ends described.Told r.left acts next × IsTranscript known later acts next
