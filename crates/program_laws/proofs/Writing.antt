-- The rule for the calls of a session: the fields that it writes are those of tables that it was shown.
use Rattle.std.proofs.Common.{◌≡◌, ◌≤◌, List, [], ◌++◌, length, take, Ok, sym, ap, ◌∙◌}
use Rattle.std.proofs.lemmas.List.{append-nil}
use Rattle.cell_base.specs.declared.cell.Cell.{Cell}
use Rattle.cell_base.specs.declared.cell.Cell.TheVariants.{Presence, Field}
use Rattle.sql_tree.specs.declared.statement.Statement.{Statement}
use Rattle.sql_tree.specs.declared.table.Table.{Table}
use Rattle.sql_tree.specs.declared.typed.Typed.{Typed}
use Rattle.typing_rules.specs.Typed.{typed}
use Rattle.statement_course.specs.Course.{Course, scan, touch, write, done}
use Rattle.statement_course.specs.Statements.{course_of}
use Rattle.block_machine.specs.Calls.{Call}
use Rattle.block_machine.specs.Calls as calls
use Rattle.block_machine.specs.Knowledge.{Knowledge, with_tables}
use Rattle.block_machine.specs.declared.call.Answer.{Answer}
use Rattle.block_machine.specs.declared.call.Answer.TheVariants as answers
use Rattle.session_laws.proofs.Rules.{Rules, AreFit}
use Rattle.session_laws.specs.Alone.{AreFirst}
use Rattle.session_laws.proofs.Fronts.{first_length, first_taken, field_first}
use Rattle.program_laws.proofs.FieldsWritten.{IsFieldIn, WritesFields, statement_writes}

-- a session that was shown these tables may make the call
abbrev pub MayCall : List Table → Call → Type 0
MayCall shown (calls.Look n) = n ≤ length shown
MayCall shown (calls.Write cell value) = IsFieldIn shown cell
MayCall shown _ = Unit {0}

-- the tables that it was shown after the answer
abbrev pub following : List Table → Call → Answer → List Table
following shown (calls.Look n) (answers.Looked tables) = take n shown ++ tables
following shown _ _ = shown

abbrev Knows : List Table → Knowledge → Type 0
Knows shown k = AreFirst k.tables shown

abbrev pub fields : Rules
fields = record {
  State = List Table;
  may = MayCall;
  next = following;
  Fresh = Knows;
  Resting = Knows;
  Runs = λ shown k c. Knows shown k × WritesFields shown c;
}

-- ---- more tables

pub cell_first : (xs ys : List Table) (cell : Cell) → AreFirst xs ys → IsFieldIn xs cell → IsFieldIn ys cell
cell_first xs ys (Presence table key) first is = tt
cell_first xs ys (Field table key column) first is = field_first xs ys table column first is

writes_first : (xs ys : List Table) (c : Course) → AreFirst xs ys → WritesFields xs c → WritesFields ys c
writes_first xs ys (scan table rest) first on = λ keys. writes_first xs ys (rest keys) first (on keys)
writes_first xs ys (touch cell rest) first on = λ value. writes_first xs ys (rest value) first (on value)
writes_first xs ys (write cell value rest) first on = (cell_first xs ys cell first on.0, writes_first xs ys rest first on.1)
writes_first xs ys (done outcome) first on = tt

-- ---- looks

after_look : (shown : List Table) (k : Knowledge) (a : Answer) → Knows shown k → Knows (following shown (calls.Look (length k.tables)) a) k
after_look shown k (answers.Looked tables) knows =
    record { more = tables; whole = ap (λ (ts : List Table). ts ++ tables) (first_taken k.tables shown knows) }
after_look shown k _ knows = knows

looked_at : (shown : List Table) (k : Knowledge) (tables : List Table) → Knows shown k →
    Knows (following shown (calls.Look (length k.tables)) (answers.Looked tables)) (with_tables k tables)
looked_at shown k tables knows = record {
  more = [];
  whole = ap (λ (ts : List Table). ts ++ tables) (first_taken k.tables shown knows) ∙ sym (append-nil (k.tables ++ tables));
}

runs_from : (shown : List Table) (k : Knowledge) (statement : Statement) (t : Typed) → Knows shown k → typed k.tables statement ≡ Ok t →
    Knows shown k × WritesFields shown (course_of k.tables t)
runs_from shown k statement t knows is =
    (knows, writes_first k.tables shown (course_of k.tables t) knows (statement_writes k.tables statement t is))

pub fields_fit : AreFit fields
fields_fit = record {
  opens = λ s k knows. (tt, λ session. knows);
  closes = λ s k knows. tt;
  looks = λ s k knows. (first_length k.tables s knows, λ a. after_look s k a knows);
  looked = λ s k tables knows. looked_at s k tables knows;
  levels = λ s k level knows. knows;
  defines = λ s k table knows. (tt, λ a. knows);
  begins = λ s k level knows. (tt, λ a. knows);
  commits = λ s k knows. (tt, λ a. knows);
  rolls_back = λ s k knows. (tt, λ a. knows);
  shows = λ s k knows. (tt, λ a. knows);
  runs = runs_from;
  scans = λ s k table rest running. (tt, λ keys. (running.0, running.1 keys), λ why. (tt, λ a. running.0));
  touches = λ s k cell rest running. (tt, λ value. (running.0, running.1 value), λ why. (tt, λ a. running.0));
  writes = λ s k cell value rest running. (running.1.0, (running.0, running.1.1), λ why. (tt, λ a. running.0));
  finishes = λ s k outcome running. running.0;
  breaks = λ s k c running. (tt, λ a. running.0);
}
