-- Each statement that a session ran was answered over one picture.
use Rattle.std.specs.Prelude.{◌≡◌, ℕ, ⊤, List, [], ◌++◌}
use Rattle.std.specs.List.{AllByRecursion}
use Rattle.cell_base.specs.declared.level.Level.{Level}
use Rattle.history_book.specs.Book.{Past}
use Rattle.history_core.specs.Chronicle.{IsLegalChronicle}
use Rattle.history_core.specs.Legal.{IsFormed}
use Rattle.sql_tree.specs.declared.statement.Statement.{Statement}
use Rattle.sql_tree.specs.declared.table.Table.{Table}
use Rattle.block_machine.specs.Script.{Entry, Said, Next, more, call, ended, astray}
use Rattle.block_machine.specs.declared.message.Message.TheVariants as messages
use Rattle.session_core.specs.Record.{IsValidRecord}
use Rattle.session_core.specs.Requests.{Request, query, Requests, asks, partial, faulty, unread}
use Rattle.session_core.specs.Serve.{Scene, Account, Serves}
use Rattle.session_core.specs.Told.{told}
use Rattle.session_core.specs.declared.served.Served.{Served}
use Rattle.statement_laws.specs.Runs.{ListsOnce}
use Rattle.statement_laws.specs.RunLaws.{HasPicture}
use Rattle.session_laws.specs.Acts.{Run, Act, runs, AreEvents, bytes_of, calls_of, entries_of}
use Rattle.session_laws.specs.Transcripts.{IsTranscript}

-- ---- what a client asks

abbrev pub statements_in : Request → List Statement
statements_in (query (messages.Statements xs)) = xs
statements_in _ = []

-- the statements of all query messages, in order
abbrev pub statements_of : Requests → List Statement
statements_of (asks asked requests) = statements_in asked ++ statements_of requests
statements_of (partial rest) = []
statements_of (faulty fault) = []
statements_of unread = []

-- ---- a session's transcript

-- the whole record was taken, but where it has an entry that doesn't belong there
abbrev pub IsWhole : Next → List Entry → Type 0
IsWhole astray rest = ⊤
IsWhole more rest = rest ≡ []
IsWhole (call c) rest = rest ≡ []
IsWhole (ended end) rest = rest ≡ []

-- Acts that hold what was said and the record, in order, and are a transcript of a session that is asked these statements.
pub record Transcript (asked : List Statement) (entries : List Entry) (said : Said) (next : Next) : Type 0 where
  pub acts : List Act
  pub rest : List Entry
  pub entries_are : entries ≡ entries_of acts ++ rest
  pub bytes_are : said.bytes ≡ bytes_of acts
  pub calls_are : said.calls ≡ calls_of acts
  pub whole : IsWhole next rest
  pub is : IsTranscript [] asked acts next

-- what a session says and asks by its record has a transcript
abbrev pub SessionHasTranscript : Type 0
SessionHasTranscript =
    (level : Level) (requests : Requests) (entries : List Entry) (said : Said) (next : Next)
    → told level requests entries ≡ (said, next) → Transcript (statements_of requests) entries said next

-- ---- statements over pictures

-- these tables are the first ones
abbrev pub AreFirst : List Table → List Table → Type 0
AreFirst first tables = (later : List Table) × (tables ≡ first ++ later)

-- A statement that ran over the first tables of a history: its entries hold the events of its steps, and each scan lists a key once. One
-- picture shows all that it read; and where it came to its end, it asked, wrote and came to what it means over that picture.
pub record HasOnePicture (tables : List Table) (r : Run) : Type 0 where
  pub first : AreFirst r.tables tables
  pub events : AreEvents r.steps r.entries
  pub once : AllByRecursion ListsOnce r.steps
  pub shown : HasPicture r.tables r.typed r.steps r.left

abbrev pub RanOverPicture : List Table → Act → Type 0
RanOverPicture tables (runs r) = HasOnePicture tables r
RanOverPicture tables _ = ⊤

-- Where a session's record is valid, and each event of the history at its end fits what came before it: each statement that the session
-- ran did so over one picture.
abbrev pub EachStatementHasOnePicture : {W : Type 0} → (W → ℕ → W → Type 0) → Type 0
EachStatementHasOnePicture {W} gives =
    (level : Level) (requests : Requests) (entries : List Entry) (said : Said) (next : Next) (p : Past) (v : W) (q : Past) (w : W)
    → told level requests entries ≡ (said, next) → IsValidRecord gives p v said.calls entries q w → IsFormed q.seen.initial q.seen.events
    → (t : Transcript (statements_of requests) entries said next) × AllByRecursion (RanOverPicture q.seen.tables) t.acts

-- So did each statement of a session that was served over a link, where the history at the end is legal.
abbrev pub ServedStatementsHavePictures : {W : Type 0} → (W → ℕ → W → Type 0) → Type 0
ServedStatementsHavePictures {W} gives =
    (level : Level) (before : Scene W) (outcome : Served) (after : Scene W) (account : Account)
    → (s : Serves gives level before outcome after account) → IsLegalChronicle after.past.seen
    → (t : Transcript (statements_of s.requests) account.entries (record { bytes = account.sent; calls = account.calls }) (ended outcome.end))
    × AllByRecursion (RanOverPicture after.past.seen.tables) t.acts
