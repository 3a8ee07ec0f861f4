-- The rules of whole rows for the calls of a session.
use Rattle.std.proofs.Common.{◌≡◌, ℕ, ◌≤◌, List, [], ◌++◌, length, take, Ok, refl, sym, ap, subst, ◌∙◌}
use Rattle.std.proofs.lemmas.List.{append-nil}
use Rattle.cell_base.specs.declared.cell.Cell.{Cell}
use Rattle.cell_base.specs.declared.key.Key.{Key}
use Rattle.cell_base.specs.declared.level.Level.{Level}
use Rattle.sql_tree.specs.declared.statement.Statement.{Statement}
use Rattle.sql_tree.specs.declared.table.Table.{Table}
use Rattle.sql_tree.specs.declared.typed.Typed.{Typed}
use Rattle.typing_rules.specs.Typed.{typed}
use Rattle.statement_course.specs.Course.{Course}
use Rattle.statement_course.specs.Statements.{course_of}
use Rattle.block_machine.specs.Calls.{Call}
use Rattle.block_machine.specs.Calls as calls
use Rattle.block_machine.specs.Knowledge.{Knowledge, with_tables}
use Rattle.block_machine.specs.declared.call.Answer.{Answer}
use Rattle.block_machine.specs.declared.call.Answer.TheVariants as answers
use Rattle.session_laws.proofs.Rules.{Rules, Breaks, AreFit}
use Rattle.statement_laws.specs.RowCourses.{shown_after, owed_after, MayAsk, MayWrite, KeepsWhole}
use Rattle.statement_laws.proofs.RowsKept.{statement_keeps}
use Rattle.session_laws.specs.Alone.{AreFirst}
use Rattle.session_laws.proofs.Fronts.{first_length, first_taken, keeps_first}

-- where a session stands: the tables that it was shown, the rows that it was shown to be there, the fields that it owes
pub record Standing : Type 0 where
  pub known : List Table
  pub shown : List (ℕ × Key)
  pub owed : List Cell

abbrev pub MayCall : Standing → Call → Type 0
MayCall s (calls.Look n) = (s.owed ≡ []) × (n ≤ length s.known)
MayCall s (calls.Touch cell) = (s.owed ≡ []) × MayAsk s.known s.shown cell
MayCall s (calls.Write cell value) = MayWrite s.known s.owed cell value
MayCall s calls.Rollback = Unit {0}
MayCall s _ = s.owed ≡ []

abbrev pub following : Standing → Call → Answer → Standing
following s (calls.Look n) (answers.Looked tables) = record { known = take n s.known ++ tables; shown = s.shown; owed = s.owed }
following s (calls.Begin level) (answers.Begun n) = record { known = s.known; shown = []; owed = s.owed }
following s (calls.Touch cell) (answers.Found value) = record { known = s.known; shown = shown_after s.shown cell value; owed = s.owed }
following s (calls.Write cell value) answers.Written = record { known = s.known; shown = s.shown; owed = owed_after s.known s.owed cell value }
following s calls.Rollback a = record { known = s.known; shown = s.shown; owed = [] }
following s _ _ = s

-- between two statements nothing is owed, and what the session knows are the first tables that it was shown
abbrev pub IsResting : Standing → Knowledge → Type 0
IsResting s k = (s.owed ≡ []) × AreFirst k.tables s.known

abbrev pub IsRunning : Standing → Knowledge → Course → Type 0
IsRunning s k c = AreFirst k.tables s.known × KeepsWhole s.known s.shown s.owed c

abbrev pub rows : Rules
rows = record { State = Standing; may = MayCall; next = following; Fresh = IsResting; Resting = IsResting; Runs = IsRunning }

-- ---- the tables that a look shows

after_look : (s : Standing) (k : Knowledge) (a : Answer) → IsResting s k → IsResting (following s (calls.Look (length k.tables)) a) k
after_look s k (answers.Looked tables) resting =
    (resting.0, record { more = tables; whole = ap (λ (ts : List Table). ts ++ tables) (first_taken k.tables s.known resting.1) })
after_look s k _ resting = resting

looked_at : (s : Standing) (k : Knowledge) (tables : List Table) → IsResting s k →
    IsResting (following s (calls.Look (length k.tables)) (answers.Looked tables)) (with_tables k tables)
looked_at s k tables resting = (
  resting.0,
  record {
    more = [];
    whole = ap (λ (ts : List Table). ts ++ tables) (first_taken k.tables s.known resting.1) ∙ sym (append-nil (k.tables ++ tables));
  },
)

after_begin : (s : Standing) (k : Knowledge) (level : Level) (a : Answer) → IsResting s k → IsResting (following s (calls.Begin level) a) k
after_begin s k level (answers.Begun n) resting = resting
after_begin s k level _ resting = resting

runs_from : (s : Standing) (k : Knowledge) (statement : Statement) (t : Typed) → IsResting s k → typed k.tables statement ≡ Ok t → IsRunning s k (course_of k.tables t)
runs_from s k statement t resting is = (
  resting.1,
  subst (λ (owed : List Cell). KeepsWhole s.known s.shown owed (course_of k.tables t)) (sym resting.0)
      (keeps_first k.tables s.known s.shown [] (course_of k.tables t) resting.1 (statement_keeps k.tables statement t s.shown is)),
)

rolled_back : (s : Standing) (k : Knowledge) → AreFirst k.tables s.known → Breaks rows s k
rolled_back s k first = (tt, λ a. (refl, first))

pub rows_fit : AreFit rows
rows_fit = record {
  opens = λ s k fresh. (fresh.0, λ session. fresh);
  closes = λ s k resting. resting.0;
  looks = λ s k resting. ((resting.0, first_length k.tables s.known resting.1), λ a. after_look s k a resting);
  looked = λ s k tables resting. looked_at s k tables resting;
  levels = λ s k level resting. resting;
  defines = λ s k table resting. (resting.0, λ a. resting);
  begins = λ s k level resting. (resting.0, λ a. after_begin s k level a resting);
  commits = λ s k resting. (resting.0, λ a. resting);
  rolls_back = λ s k resting. rolled_back s k resting.1;
  shows = λ s k resting. (resting.0, λ a. resting);
  runs = runs_from;
  scans = λ s k table rest running. (running.1.0, λ keys. (running.0, running.1.1 keys), λ why. rolled_back s k running.0);
  touches = λ s k cell rest running.
      ((running.1.0, running.1.1), λ value. (running.0, running.1.2 value), λ why. rolled_back s k running.0);
  writes = λ s k cell value rest running. (running.1.0, (running.0, running.1.1), λ why. rolled_back s k running.0);
  finishes = λ s k outcome running. (running.1, running.0);
  breaks = λ s k c running. rolled_back s k running.0;
}
