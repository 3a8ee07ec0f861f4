-- Rules for the calls of a session, and scripts that keep them. A state says what came before; a rule says which calls it allows, and the
-- answer to a call leads to the next state.
use Rattle.std.proofs.Common.{◌≡◌, Bool, true, false, cond, ℕ, List, [], ◌∷◌, ◌++◌, length, sym, ◌∙◌, append_assoc, ◌==◌, Ok}
use Rattle.std.proofs.lemmas.List.{append-nil}
use Rattle.cell_base.specs.declared.cell.Cell.{Cell}
use Rattle.cell_base.specs.declared.key.Key.{Key}
use Rattle.cell_base.specs.declared.level.Level.{Level}
use Rattle.cell_base.specs.declared.value.Value.{Value}
use Rattle.sql_tree.specs.declared.statement.Statement.{Statement}
use Rattle.sql_tree.specs.declared.table.Table.{Table}
use Rattle.sql_tree.specs.declared.typed.Typed.{Typed}
use Rattle.typing_rules.specs.Typed.{typed}
use Rattle.history_core.specs.declared.fault.BookFault.{BookFault}
use Rattle.history_core.specs.declared.fault.DefineAnswer.TheVariants as defines
use Rattle.statement_course.specs.declared.demand.Outcome.{Outcome}
use Rattle.statement_course.specs.Course.{Course, scan, touch, write, done}
use Rattle.statement_course.specs.Statements.{course_of}
use Rattle.block_machine.specs.Calls.{Call}
use Rattle.block_machine.specs.Calls as calls
use Rattle.block_machine.specs.Knowledge.{Knowledge, with_tables, with_level}
use Rattle.block_machine.specs.Script.{Entry, did, refused, short, unsent, stop, Said, with_bytes, with_call, Script, lost, ask, tell, unless_unsent, unless_short, on_opened, on_looked, on_defined, on_begun, on_listed, on_found, on_written, on_shown}
use Rattle.block_machine.specs.declared.call.Answer.{Answer}
use Rattle.block_machine.specs.declared.call.Answer.TheVariants as answers
use Rattle.block_machine.specs.declared.end.Stop.{Stop}

pub record Rules : Type 1 where
  pub State : Type 0
  -- the call may be made
  pub may : State → Call → Type 0
  -- where its answer leads
  pub next : State → Call → Answer → State
  -- no session was opened yet, where this is known
  pub Fresh : State → Knowledge → Type 0
  -- between two statements, where this is known
  pub Resting : State → Knowledge → Type 0
  -- in a statement, of which this is left, where this is known
  pub Runs : State → Knowledge → Course → Type 0

-- a transaction may be rolled back, and then it is resting
abbrev pub Breaks : (r : Rules) → r.State → Knowledge → Type 0
Breaks r s k = r.may s calls.Rollback × ((a : Answer) → r.Resting (r.next s calls.Rollback a) k)

-- the call may be made, and whatever its answer it is resting then
abbrev pub Allows : (r : Rules) → r.State → Knowledge → Call → Type 0
Allows r s k c = r.may s c × ((a : Answer) → r.Resting (r.next s c a) k)

-- what the rules have to say of the calls that scripts make
pub record AreFit (r : Rules) : Type 0 where
  pub opens : (s : r.State) (k : Knowledge) → r.Fresh s k → r.may s calls.Open × ((session : ℕ) → r.Resting (r.next s calls.Open (answers.Opened session)) k)
  pub closes : (s : r.State) (k : Knowledge) → r.Resting s k → r.may s calls.Close
  pub looks : (s : r.State) (k : Knowledge) → r.Resting s k → Allows r s k (calls.Look (length k.tables))
  pub looked : (s : r.State) (k : Knowledge) (tables : List Table) → r.Resting s k →
      r.Resting (r.next s (calls.Look (length k.tables)) (answers.Looked tables)) (with_tables k tables)
  pub levels : (s : r.State) (k : Knowledge) (level : Level) → r.Resting s k → r.Resting s (with_level k level)
  pub defines : (s : r.State) (k : Knowledge) (table : Table) → r.Resting s k → Allows r s k (calls.Define table)
  pub begins : (s : r.State) (k : Knowledge) (level : Level) → r.Resting s k → Allows r s k (calls.Begin level)
  pub commits : (s : r.State) (k : Knowledge) → r.Resting s k → Allows r s k calls.Commit
  pub rolls_back : (s : r.State) (k : Knowledge) → r.Resting s k → Breaks r s k
  pub shows : (s : r.State) (k : Knowledge) → r.Resting s k → Allows r s k calls.Show
  pub runs : (s : r.State) (k : Knowledge) (statement : Statement) (t : Typed) → r.Resting s k → typed k.tables statement ≡ Ok t → r.Runs s k (course_of k.tables t)
  pub scans : (s : r.State) (k : Knowledge) (table : ℕ) (rest : List Key → Course) → r.Runs s k (scan table rest) →
      r.may s (calls.Scan table) × ((keys : List Key) → r.Runs (r.next s (calls.Scan table) (answers.Listed keys)) k (rest keys))
      × ((why : BookFault) → Breaks r (r.next s (calls.Scan table) (answers.Refused why)) k)
  pub touches : (s : r.State) (k : Knowledge) (cell : Cell) (rest : Value → Course) → r.Runs s k (touch cell rest) →
      r.may s (calls.Touch cell) × ((value : Value) → r.Runs (r.next s (calls.Touch cell) (answers.Found value)) k (rest value))
      × ((why : BookFault) → Breaks r (r.next s (calls.Touch cell) (answers.Refused why)) k)
  pub writes : (s : r.State) (k : Knowledge) (cell : Cell) (value : Value) (rest : Course) → r.Runs s k (write cell value rest) →
      r.may s (calls.Write cell value) × r.Runs (r.next s (calls.Write cell value) answers.Written) k rest
      × ((why : BookFault) → Breaks r (r.next s (calls.Write cell value) (answers.Refused why)) k)
  pub finishes : (s : r.State) (k : Knowledge) (outcome : Outcome) → r.Runs s k (done outcome) → r.Resting s k
  pub breaks : (s : r.State) (k : Knowledge) (c : Course) → r.Runs s k c → Breaks r s k

-- these calls keep to the rules, which were answered by these entries
abbrev pub Obeys : (r : Rules) → r.State → List Call → List Entry → Type 0
Obeys r s [] es = Unit {0}
Obeys r s (c ∷ cs) [] = Unit {0}
Obeys r s (c ∷ cs) (did a e ∷ es) = r.may s c × Obeys r (r.next s c a) cs es
Obeys r s (c ∷ cs) (refused why ∷ es) = r.may s c × Obeys r (r.next s c (answers.Refused why)) cs es
Obeys r s (c ∷ cs) (short final n ∷ es) = Obeys r s (c ∷ cs) es
Obeys r s (c ∷ cs) (unsent n ∷ es) = Obeys r s (c ∷ cs) es
Obeys r s (c ∷ cs) (stop cause ∷ es) = Obeys r s (c ∷ cs) es

-- the calls that a script asks, after those that were asked, keep to the rules
pub record Asked (r : Rules) (s : r.State) (before : List Call) (after : List Call) (entries : List Entry) : Type 0 where
  pub more : List Call
  pub whole : after ≡ before ++ more
  pub obeys : Obeys r s more entries

-- a script that keeps to the rules, whatever was said and whatever becomes of it
abbrev Asks : (r : Rules) → r.State → Script → Type 0
Asks r s script = (said : Said) (entries : List Entry) → Asked r s said.calls (script said entries).0.calls entries

pub record Keeps (r : Rules) (s : r.State) (script : Script) : Type 0 where
  pub asks : (said : Said) (entries : List Entry) → Asked r s said.calls (script said entries).0.calls entries

-- ---- entries that aren't answers

skip_short : (r : Rules) (s : r.State) (cs : List Call) (final : Bool) (n : ℕ) (es : List Entry) → Obeys r s cs es → Obeys r s cs (short final n ∷ es)
skip_short r s [] final n es obeys = tt
skip_short r s (c ∷ cs) final n es obeys = obeys

skip_unsent : (r : Rules) (s : r.State) (cs : List Call) (n : ℕ) (es : List Entry) → Obeys r s cs es → Obeys r s cs (unsent n ∷ es)
skip_unsent r s [] n es obeys = tt
skip_unsent r s (c ∷ cs) n es obeys = obeys

skip_stop : (r : Rules) (s : r.State) (cs : List Call) (cause : Stop) (es : List Entry) → Obeys r s cs es → Obeys r s cs (stop cause ∷ es)
skip_stop r s [] cause es obeys = tt
skip_stop r s (c ∷ cs) cause es obeys = obeys

pub past_stop : (r : Rules) (s : r.State) (before after : List Call) (cause : Stop) (es : List Entry) → Asked r s before after es →
    Asked r s before after (stop cause ∷ es)
past_stop r s before after cause es asked =
    record { more = asked.more; whole = asked.whole; obeys = skip_stop r s asked.more cause es asked.obeys }

pub past_short : (r : Rules) (s : r.State) (before after : List Call) (final : Bool) (n : ℕ) (es : List Entry) → Asked r s before after es →
    Asked r s before after (short final n ∷ es)
past_short r s before after final n es asked =
    record { more = asked.more; whole = asked.whole; obeys = skip_short r s asked.more final n es asked.obeys }

pub past_unsent : (r : Rules) (s : r.State) (before after : List Call) (n : ℕ) (es : List Entry) → Asked r s before after es →
    Asked r s before after (unsent n ∷ es)
past_unsent r s before after n es asked =
    record { more = asked.more; whole = asked.whole; obeys = skip_unsent r s asked.more n es asked.obeys }

pub none_asked : (r : Rules) (s : r.State) (before : List Call) (entries : List Entry) → Asked r s before before entries
none_asked r s before entries = record { more = []; whole = sym (append-nil before); obeys = tt }

-- ---- scripts

pub lost_keeps : (r : Rules) (s : r.State) → Keeps r s lost
lost_keeps r s = record { asks = λ said entries. none_asked r s said.calls entries }

ask_asks : (r : Rules) (s : r.State) (c : Call) (rest : Answer → Script) → r.may s c → ((a : Answer) → Keeps r (r.next s c a) (rest a)) → Asks r s (ask c rest)
ask_asks r s c rest may keeps said [] = none_asked r s said.calls []
ask_asks r s c rest may keeps said (did a e ∷ entries) =
    let on = (keeps a).asks (with_call said c) entries in
    record { more = c ∷ on.more; whole = on.whole ∙ append_assoc said.calls (c ∷ []) on.more; obeys = (may, on.obeys) }
ask_asks r s c rest may keeps said (refused why ∷ entries) =
    let on = (keeps (answers.Refused why)).asks (with_call said c) entries in
    record { more = c ∷ on.more; whole = on.whole ∙ append_assoc said.calls (c ∷ []) on.more; obeys = (may, on.obeys) }
ask_asks r s c rest may keeps said (short final n ∷ entries) = none_asked r s said.calls (short final n ∷ entries)
ask_asks r s c rest may keeps said (unsent n ∷ entries) = none_asked r s said.calls (unsent n ∷ entries)
ask_asks r s c rest may keeps said (stop cause ∷ entries) = none_asked r s said.calls (stop cause ∷ entries)

pub ask_keeps : (r : Rules) (s : r.State) (c : Call) (rest : Answer → Script) → r.may s c → ((a : Answer) → Keeps r (r.next s c a) (rest a)) → Keeps r s (ask c rest)
ask_keeps r s c rest may keeps = record { asks = ask_asks r s c rest may keeps }

unsent_asks : (r : Rules) (s : r.State) (before : ℕ) (fault rest : Script) → Asks r s fault → Asks r s rest → Asks r s (unless_unsent before fault rest)
unsent_asks r s before fault rest bad good said [] = good said []
unsent_asks r s before fault rest bad good said (did a e ∷ entries) = good said (did a e ∷ entries)
unsent_asks r s before fault rest bad good said (refused why ∷ entries) = good said (refused why ∷ entries)
unsent_asks r s before fault rest bad good said (short final n ∷ entries) = good said (short final n ∷ entries)
unsent_asks r s before fault rest bad good said (unsent n ∷ entries) =
    either (n == before) (past_unsent r s said.calls (fault said entries).0.calls n entries (bad said entries)) (good said (unsent n ∷ entries))
  where
    either : (b : Bool) → Asked r s said.calls (fault said entries).0.calls (unsent n ∷ entries) →
        Asked r s said.calls (rest said (unsent n ∷ entries)).0.calls (unsent n ∷ entries) →
        Asked r s said.calls (cond b (fault said entries) (rest said (unsent n ∷ entries))).0.calls (unsent n ∷ entries)
    either true one two = one
    either false one two = two
unsent_asks r s before fault rest bad good said (stop cause ∷ entries) = good said (stop cause ∷ entries)

pub tell_keeps : (r : Rules) (s : r.State) (bytes : List ℕ) (fault rest : Script) → Keeps r s fault → Keeps r s rest → Keeps r s (tell bytes fault rest)
tell_keeps r s bytes fault rest bad good = record {
  asks = λ said entries. unsent_asks r s (length said.bytes) fault rest bad.asks good.asks (with_bytes said bytes) entries;
}

short_here : (r : Rules) (s : r.State) (final : Bool) (short_of rest : Script) → Asks r s short_of → Asks r s rest → (said : Said) (n : ℕ) (entries : List Entry) →
    (b : Bool) → Asked r s said.calls (cond b (short_of said entries) (rest said (short final n ∷ entries))).0.calls (short final n ∷ entries)
short_here r s final short_of rest bad good said n entries true =
    past_short r s said.calls (short_of said entries).0.calls final n entries (bad said entries)
short_here r s final short_of rest bad good said n entries false = good said (short final n ∷ entries)

short_asks : (r : Rules) (s : r.State) (final : Bool) (short_of rest : Script) → Asks r s short_of → Asks r s rest → Asks r s (unless_short final short_of rest)
short_asks r s final short_of rest bad good said [] = good said []
short_asks r s final short_of rest bad good said (did a e ∷ entries) = good said (did a e ∷ entries)
short_asks r s final short_of rest bad good said (refused why ∷ entries) = good said (refused why ∷ entries)
short_asks r s true short_of rest bad good said (short true n ∷ entries) =
    short_here r s true short_of rest bad good said n entries (n == length said.bytes)
short_asks r s false short_of rest bad good said (short false n ∷ entries) =
    short_here r s false short_of rest bad good said n entries (n == length said.bytes)
short_asks r s true short_of rest bad good said (short false n ∷ entries) = good said (short false n ∷ entries)
short_asks r s false short_of rest bad good said (short true n ∷ entries) = good said (short true n ∷ entries)
short_asks r s final short_of rest bad good said (unsent n ∷ entries) = good said (unsent n ∷ entries)
short_asks r s final short_of rest bad good said (stop cause ∷ entries) = good said (stop cause ∷ entries)

pub short_keeps : (r : Rules) (s : r.State) (final : Bool) (short_of rest : Script) → Keeps r s short_of → Keeps r s rest → Keeps r s (unless_short final short_of rest)
short_keeps r s final short_of rest bad good = record { asks = short_asks r s final short_of rest bad.asks good.asks }

-- ---- by the answer

pub opened_keeps : (r : Rules) (s : r.State) (c : Call) (good : ℕ → Script) (bad : BookFault → Script) →
    ((session : ℕ) → Keeps r (r.next s c (answers.Opened session)) (good session)) → ((why : BookFault) → Keeps r (r.next s c (answers.Refused why)) (bad why)) →
    (a : Answer) → Keeps r (r.next s c a) (on_opened a good bad)
opened_keeps r s c good bad one other (answers.Opened session) = one session
opened_keeps r s c good bad one other (answers.Refused why) = other why
opened_keeps r s c good bad one other _ = lost_keeps r _

pub looked_keeps : (r : Rules) (s : r.State) (c : Call) (good : List Table → Script) (bad : BookFault → Script) →
    ((tables : List Table) → Keeps r (r.next s c (answers.Looked tables)) (good tables)) → ((why : BookFault) → Keeps r (r.next s c (answers.Refused why)) (bad why)) →
    (a : Answer) → Keeps r (r.next s c a) (on_looked a good bad)
looked_keeps r s c good bad one other (answers.Looked tables) = one tables
looked_keeps r s c good bad one other (answers.Refused why) = other why
looked_keeps r s c good bad one other _ = lost_keeps r _

pub defined_keeps : (r : Rules) (s : r.State) (c : Call) (good taken : Script) (bad : BookFault → Script) →
    ((a : Answer) → Keeps r (r.next s c a) good) → ((a : Answer) → Keeps r (r.next s c a) taken) → ((why : BookFault) → Keeps r (r.next s c (answers.Refused why)) (bad why)) →
    (a : Answer) → Keeps r (r.next s c a) (on_defined a good taken bad)
defined_keeps r s c good taken bad one two other (answers.Defined (defines.Defined n)) = one (answers.Defined (defines.Defined n))
defined_keeps r s c good taken bad one two other (answers.Defined (defines.Taken n)) = two (answers.Defined (defines.Taken n))
defined_keeps r s c good taken bad one two other (answers.Refused why) = other why
defined_keeps r s c good taken bad one two other _ = lost_keeps r _

pub begun_keeps : (r : Rules) (s : r.State) (c : Call) (good : Script) (bad : BookFault → Script) →
    ((a : Answer) → Keeps r (r.next s c a) good) → ((why : BookFault) → Keeps r (r.next s c (answers.Refused why)) (bad why)) →
    (a : Answer) → Keeps r (r.next s c a) (on_begun a good bad)
begun_keeps r s c good bad one other (answers.Begun n) = one (answers.Begun n)
begun_keeps r s c good bad one other (answers.Refused why) = other why
begun_keeps r s c good bad one other _ = lost_keeps r _

pub listed_keeps : (r : Rules) (s : r.State) (c : Call) (good : List Key → Script) (bad : BookFault → Script) →
    ((keys : List Key) → Keeps r (r.next s c (answers.Listed keys)) (good keys)) → ((why : BookFault) → Keeps r (r.next s c (answers.Refused why)) (bad why)) →
    (a : Answer) → Keeps r (r.next s c a) (on_listed a good bad)
listed_keeps r s c good bad one other (answers.Listed keys) = one keys
listed_keeps r s c good bad one other (answers.Refused why) = other why
listed_keeps r s c good bad one other _ = lost_keeps r _

pub found_keeps : (r : Rules) (s : r.State) (c : Call) (good : Value → Script) (bad : BookFault → Script) →
    ((value : Value) → Keeps r (r.next s c (answers.Found value)) (good value)) → ((why : BookFault) → Keeps r (r.next s c (answers.Refused why)) (bad why)) →
    (a : Answer) → Keeps r (r.next s c a) (on_found a good bad)
found_keeps r s c good bad one other (answers.Found value) = one value
found_keeps r s c good bad one other (answers.Refused why) = other why
found_keeps r s c good bad one other _ = lost_keeps r _

pub written_keeps : (r : Rules) (s : r.State) (c : Call) (good : Script) (bad : BookFault → Script) →
    Keeps r (r.next s c answers.Written) good → ((why : BookFault) → Keeps r (r.next s c (answers.Refused why)) (bad why)) →
    (a : Answer) → Keeps r (r.next s c a) (on_written a good bad)
written_keeps r s c good bad one other answers.Written = one
written_keeps r s c good bad one other (answers.Refused why) = other why
written_keeps r s c good bad one other _ = lost_keeps r _

pub shown_keeps : (r : Rules) (s : r.State) (c : Call) (good : ℕ → Script) (bad : BookFault → Script) →
    ((n : ℕ) → Keeps r (r.next s c (answers.Shown n)) (good n)) → ((why : BookFault) → Keeps r (r.next s c (answers.Refused why)) (bad why)) →
    (a : Answer) → Keeps r (r.next s c a) (on_shown a good bad)
shown_keeps r s c good bad one other (answers.Shown n) = one n
shown_keeps r s c good bad one other (answers.Refused why) = other why
shown_keeps r s c good bad one other _ = lost_keeps r _
