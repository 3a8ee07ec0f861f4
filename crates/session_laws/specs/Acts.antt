-- What a session did, one thing after another: what it told, the calls that it asked, what it met, and the statements that it ran.
use Rattle.std.specs.Prelude.{◌≡◌, ℕ, ⊤, List, [], ◌∷◌, map, flat_map}
use Rattle.history_core.specs.declared.event.Event.{Event}
use Rattle.history_core.specs.declared.event.Event.TheVariants.{Scan, Read, Own, Write}
use Rattle.sql_tree.specs.declared.statement.Statement.{Statement}
use Rattle.sql_tree.specs.declared.table.Table.{Table}
use Rattle.sql_tree.specs.declared.typed.Typed.{Typed}
use Rattle.statement_course.specs.Course.{Course}
use Rattle.block_machine.specs.Calls.{Call}
use Rattle.block_machine.specs.Calls as calls
use Rattle.block_machine.specs.Script.{Entry, did}
use Rattle.block_machine.specs.declared.call.Answer.{Answer}
use Rattle.block_machine.specs.declared.call.Answer.TheVariants as answers
use Rattle.statement_laws.specs.Runs.{Step, lists, finds, puts}

-- a statement, the tables over which it has these types, the demands of its course that were answered, the entries that hold the
-- answers, and what was left of the course
pub record Run : Type 0 where
  pub statement : Statement
  pub tables : List Table
  pub typed : Typed
  pub steps : List Step
  pub entries : List Entry
  pub left : Course

pub data Act : Type 0 where
  -- bytes were told
  tells : List ℕ → Act
  -- a call was asked, and this came of it
  asks : Call → Entry → Act
  -- memory ran out in the session itself, a write failed, or no more bytes came
  meets : Entry → Act
  -- a statement ran, to its end or up to where it was cut short
  runs : Run → Act

-- ---- steps as calls

-- the call of a demand that was answered
abbrev pub call_of : Step → Call
call_of (lists table keys) = calls.Scan table
call_of (finds cell value) = calls.Touch cell
call_of (puts cell value) = calls.Write cell value

-- its answer
abbrev pub answer_of : Step → Answer
answer_of (lists table keys) = answers.Listed keys
answer_of (finds cell value) = answers.Found value
answer_of (puts cell value) = answers.Written

-- the entries hold the answers of the steps, each with its event
abbrev pub AreAnswers : List Step → List Entry → Type 0
AreAnswers [] [] = ⊤
AreAnswers (step ∷ steps) (did answer event ∷ entries) = (answer ≡ answer_of step) × AreAnswers steps entries
AreAnswers _ _ = ⊥

-- the event of a step: a scan, a read of the history or of an own write, or a write
abbrev pub IsEventOf : Step → Event → Type 0
IsEventOf (lists table keys) (Scan session t ks) = (t ≡ table) × (ks ≡ keys)
IsEventOf (finds cell value) (Read session c source count word v) = (c ≡ cell) × (v ≡ value)
IsEventOf (finds cell value) (Own session c v) = (c ≡ cell) × (v ≡ value)
IsEventOf (puts cell value) (Write session c v) = (c ≡ cell) × (v ≡ value)
IsEventOf _ _ = ⊥

-- the entries hold the events of the steps
abbrev pub AreEvents : List Step → List Entry → Type 0
AreEvents [] [] = ⊤
AreEvents (step ∷ steps) (did answer event ∷ entries) = IsEventOf step event × AreEvents steps entries
AreEvents _ _ = ⊥

-- ---- what is said and recorded by it

abbrev pub bytes_in : Act → List ℕ
bytes_in (tells bytes) = bytes
bytes_in (asks c entry) = []
bytes_in (meets entry) = []
bytes_in (runs r) = []

abbrev pub calls_in : Act → List Call
calls_in (tells bytes) = []
calls_in (asks c entry) = c ∷ []
calls_in (meets entry) = []
calls_in (runs r) = map call_of r.steps

abbrev pub entries_in : Act → List Entry
entries_in (tells bytes) = []
entries_in (asks c entry) = entry ∷ []
entries_in (meets entry) = entry ∷ []
entries_in (runs r) = r.entries

-- all bytes that were told, in order; all calls that were asked and answered or refused; the whole record

abbrev pub bytes_of : List Act → List ℕ
bytes_of acts = flat_map bytes_in acts

abbrev pub calls_of : List Act → List Call
calls_of acts = flat_map calls_in acts

abbrev pub entries_of : List Act → List Entry
entries_of acts = flat_map entries_in acts
