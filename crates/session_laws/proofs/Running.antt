-- A statement that runs: its steps, what is left of its course, and what comes after.
use Rattle.std.proofs.Common.{◌≡◌, inl, inr, ◌==◌, true, false, List, [], ◌∷◌, ◌++◌, length, map, refl, sym, subst, ap, ◌∙◌, append_assoc, Ok}
use Rattle.std.proofs.lemmas.Bool.{cond_both}
use Rattle.cell_base.specs.declared.sql_state.SqlState.TheVariants as states
use Rattle.history_core.specs.declared.event.Event.{Event}
use Rattle.history_core.specs.declared.fault.BookFault.{BookFault}
use Rattle.sql_tree.specs.declared.statement.Statement.{Statement}
use Rattle.sql_tree.specs.declared.table.Table.{Table}
use Rattle.sql_tree.specs.declared.typed.Typed.{Typed}
use Rattle.typing_rules.specs.Typed.{typed}
use Rattle.statement_course.specs.declared.demand.Outcome.{Outcome}
use Rattle.statement_course.specs.Course.{Course, scan, touch, write, done, first_demand}
use Rattle.statement_course.specs.Statements.{course_of}
use Rattle.outcome_replies.specs.declared.description.RowDescription.{RowDescription}
use Rattle.outcome_replies.specs.declared.description.RowDescription.TheVariants as described
use Rattle.block_machine.specs.Calls.{Call, asks_cells, call_for}
use Rattle.block_machine.specs.Calls as calls
use Rattle.block_machine.specs.Knowledge.{Knowledge}
use Rattle.block_machine.specs.Replies.{error_reply}
use Rattle.block_machine.specs.Script.{Entry, did, refused, short, unsent, stop, Said, Next, call, astray, with_call, Script}
use Rattle.block_machine.specs.Statements.{Around, fails, refusal_state, declined, unless_short_in, concludes, at_once, runs as runs_script}
use Rattle.block_machine.specs.declared.block.Block.{Block}
use Rattle.block_machine.specs.declared.call.Answer.TheVariants as answers
use Rattle.statement_laws.specs.Runs.{Step, lists, finds, puts, Ran}
use Rattle.session_laws.specs.Acts.{Run, Act, asks, runs, call_of, answer_of, AreAnswers, bytes_of, calls_of, entries_of}
use Rattle.session_laws.specs.Transcripts.{Refuses, Ends, finished, declined as ended_declined, short_of, unanswered, misplaced, IsOther, Learns, IsTranscript}
use Rattle.session_laws.specs.PictureLaws.{IsWhole}
use Rattle.session_laws.proofs.Traces.{Trace, Traced, Replied, AroundTraced, asks_first, meets_first, nothing, lost_traced}
use Rattle.session_laws.proofs.Failing.{fails_answers, concludes_answers}

-- ---- a course that goes on

-- steps of the course, with the entries that hold their answers, and what came after them
record Progress (shown : List Table) (asked : List Statement) (description : RowDescription) (course : Course) (said : Said) (entries : List Entry) (result : Said × Next) : Type 0 where
  steps : List Step
  taken : List Entry
  left : Course
  acts : List Act
  rest : List Entry
  ran : Ran course steps left
  answered : AreAnswers steps taken
  entries_are : entries ≡ taken ++ (entries_of acts ++ rest)
  bytes_are : result.0.bytes ≡ said.bytes ++ bytes_of acts
  calls_are : result.0.calls ≡ said.calls ++ (map call_of steps ++ calls_of acts)
  whole : IsWhole result.1 rest
  is : IsTranscript shown asked acts result.1
  ends : Ends description left acts result.1

abbrev no_steps : (shown : List Table) (asked : List Statement) (description : RowDescription) (course : Course) (said : Said) (entries : List Entry) (result : Said × Next)
    → (t : Trace shown asked said entries result) → Ends description course t.acts result.1 → Progress shown asked description course said entries result
no_steps shown asked description course said entries result t ends = record {
  steps = [];
  taken = [];
  left = course;
  acts = t.acts;
  rest = t.rest;
  ran = refl;
  answered = tt;
  entries_are = t.entries_are;
  bytes_are = t.bytes_are;
  calls_are = t.calls_are;
  whole = t.whole;
  is = t.is;
  ends = ends;
}

-- how a step takes a course to the next
abbrev Leads : Course → Step → Course → Type 0
Leads course step next = (steps : List Step) (left : Course) → Ran next steps left → Ran course (step ∷ steps) left

abbrev one_step : (shown : List Table) (asked : List Statement) (description : RowDescription) (course next : Course) (said : Said) (step : Step) (event : Event)
    (entries : List Entry) (result : Said × Next)
    → Leads course step next → Progress shown asked description next (with_call said (call_of step)) entries result
    → Progress shown asked description course said (did (answer_of step) event ∷ entries) result
one_step shown asked description course next said step event entries result leads p = record {
  steps = step ∷ p.steps;
  taken = did (answer_of step) event ∷ p.taken;
  left = p.left;
  acts = p.acts;
  rest = p.rest;
  ran = leads p.steps p.left p.ran;
  answered = (refl, p.answered);
  entries_are = ap (λ es. did (answer_of step) event ∷ es) p.entries_are;
  bytes_are = p.bytes_are;
  calls_are = p.calls_are ∙ append_assoc said.calls (call_of step ∷ []) (map call_of p.steps ++ calls_of p.acts);
  whole = p.whole;
  is = p.is;
  ends = p.ends;
}

-- ---- how a run ends

abbrev call_next : Course → Call
call_next course = call_for (first_demand course)

waits : (shown : List Table) (asked : List Statement) (description : RowDescription) (course : Course) (said : Said) → asks_cells (first_demand course) ≡ true
    → Progress shown asked description course said [] (said, call (call_next course))
waits shown asked description course said asks_one =
    no_steps shown asked description course said [] (said, call (call_next course)) (nothing shown asked said (call (call_next course)) [] refl) (unanswered course asks_one)

strays : (shown : List Table) (asked : List Statement) (description : RowDescription) (course : Course) (said : Said) (entries : List Entry)
    → Progress shown asked description course said entries (said, astray)
strays shown asked description course said entries =
    no_steps shown asked description course said entries (said, astray) (nothing shown asked said astray entries tt) (misplaced course [])

-- an answer to another call
strange : (shown : List Table) (asked : List Statement) (description : RowDescription) (course : Course) (said : Said) (entry : Entry) (entries : List Entry)
    → IsOther (call_next course) entry → Learns shown (call_next course) entry shown
    → Progress shown asked description course said (entry ∷ entries) (with_call said (call_next course), astray)
strange shown asked description course said entry entries other learns =
    let now = with_call said (call_next course) in
    no_steps shown asked description course said (entry ∷ entries) (now, astray)
    (asks_first shown shown asked said (call_next course) entry entries (now, astray) other learns (nothing shown asked now astray entries tt))
    (misplaced course (asks (call_next course) entry ∷ []))

declines : (shown : List Table) (asked : List Statement) (description : RowDescription) (course : Course) (said : Said) (entry : Entry) (entries : List Entry) (why : BookFault)
    (result : Said × Next) → asks_cells (first_demand course) ≡ true → IsOther (call_next course) entry → Learns shown (call_next course) entry shown → Refuses entry why
    → Replied shown asked (error_reply (refusal_state why)) (with_call said (call_next course)) entries result
    → Progress shown asked description course said (entry ∷ entries) result
declines shown asked description course said entry entries why result asks_one other learns refuses r =
    no_steps shown asked description course said (entry ∷ entries) result
    (asks_first shown shown asked said (call_next course) entry entries result other learns r.0)
    (ended_declined course entry why r.0.acts result.1 asks_one refuses r.1)

-- the session may be out of memory before the next demand
resumed : (asked : List Statement) (description : RowDescription) (course : Course) (block : Block) (known : Knowledge) (around : Around) (rest : Script)
    → AroundTraced asked around
    → ((said : Said) (entries : List Entry) → Progress known.tables asked description course said entries (rest said entries))
    → (said : Said) (entries : List Entry) → Progress known.tables asked description course said entries (unless_short_in block known around rest said entries)
resumed asked description course block known around rest h k said [] = k said []
resumed asked description course block known around rest h k said (did a e ∷ entries) = k said (did a e ∷ entries)
resumed asked description course block known around rest h k said (refused why ∷ entries) = k said (refused why ∷ entries)
resumed asked description course block known around rest h k said (short true n ∷ entries) = k said (short true n ∷ entries)
resumed asked description course block known around rest h k said (short false n ∷ entries) =
    let result = fails states.S53200 block known around said entries in
    cond_both (n == length said.bytes) result (rest said (short false n ∷ entries)) (Progress known.tables asked description course said (short false n ∷ entries))
    (λ _. let r = fails_answers asked states.S53200 block known around h said entries in
    no_steps known.tables asked description course said (short false n ∷ entries) result (meets_first known.tables asked said (short false n) entries result tt r.0)
    (short_of course n r.0.acts result.1 r.1))
    (λ _. k said (short false n ∷ entries))
resumed asked description course block known around rest h k said (unsent n ∷ entries) = k said (unsent n ∷ entries)
resumed asked description course block known around rest h k said (stop cause ∷ entries) = k said (stop cause ∷ entries)

-- ---- the run

progress : (asked : List Statement) (description : RowDescription) (course : Course) (block : Block) (known : Knowledge) (around : Around)
    → AroundTraced asked around → (said : Said) (entries : List Entry)
    → Progress known.tables asked description course said entries (runs_script description course block known around said entries)
progress asked description (scan table next) block known around h said [] = waits known.tables asked description (scan table next) said refl
progress asked description (scan table next) block known around h said (did (answers.Listed keys) e ∷ entries) =
    let script = runs_script description (next keys) block known around in
    let now = with_call said (calls.Scan table) in
    one_step known.tables asked description (scan table next) (next keys) said (lists table keys) e entries (unless_short_in block known around script now entries)
    (λ steps left r. (refl, r))
    (resumed asked description (next keys) block known around script h (λ s es. progress asked description (next keys) block known around h s es) now entries)
progress asked description (scan table next) block known around h said (did (answers.Refused why) e ∷ entries) =
    let now = with_call said (calls.Scan table) in
    declines known.tables asked description (scan table next) said (did (answers.Refused why) e) entries why (declined block known around why now entries) refl tt refl refl
    (fails_answers asked (refusal_state why) block known around h now entries)
progress asked description (scan table next) block known around h said (refused why ∷ entries) =
    let now = with_call said (calls.Scan table) in
    declines known.tables asked description (scan table next) said (refused why) entries why (declined block known around why now entries) refl tt refl refl
    (fails_answers asked (refusal_state why) block known around h now entries)
progress asked description (scan table next) block known around h said (did a e ∷ entries) =
    strange known.tables asked description (scan table next) said (did a e) entries tt refl
progress asked description (scan table next) block known around h said (short final n ∷ entries) = strays known.tables asked description (scan table next) said (short final n ∷ entries)
progress asked description (scan table next) block known around h said (unsent n ∷ entries) = strays known.tables asked description (scan table next) said (unsent n ∷ entries)
progress asked description (scan table next) block known around h said (stop cause ∷ entries) = strays known.tables asked description (scan table next) said (stop cause ∷ entries)
progress asked description (touch cell next) block known around h said [] = waits known.tables asked description (touch cell next) said refl
progress asked description (touch cell next) block known around h said (did (answers.Found value) e ∷ entries) =
    let script = runs_script description (next value) block known around in
    let now = with_call said (calls.Touch cell) in
    one_step known.tables asked description (touch cell next) (next value) said (finds cell value) e entries (unless_short_in block known around script now entries)
    (λ steps left r. (refl, r))
    (resumed asked description (next value) block known around script h (λ s es. progress asked description (next value) block known around h s es) now entries)
progress asked description (touch cell next) block known around h said (did (answers.Refused why) e ∷ entries) =
    let now = with_call said (calls.Touch cell) in
    declines known.tables asked description (touch cell next) said (did (answers.Refused why) e) entries why (declined block known around why now entries) refl tt refl refl
    (fails_answers asked (refusal_state why) block known around h now entries)
progress asked description (touch cell next) block known around h said (refused why ∷ entries) =
    let now = with_call said (calls.Touch cell) in
    declines known.tables asked description (touch cell next) said (refused why) entries why (declined block known around why now entries) refl tt refl refl
    (fails_answers asked (refusal_state why) block known around h now entries)
progress asked description (touch cell next) block known around h said (did a e ∷ entries) =
    strange known.tables asked description (touch cell next) said (did a e) entries tt refl
progress asked description (touch cell next) block known around h said (short final n ∷ entries) = strays known.tables asked description (touch cell next) said (short final n ∷ entries)
progress asked description (touch cell next) block known around h said (unsent n ∷ entries) = strays known.tables asked description (touch cell next) said (unsent n ∷ entries)
progress asked description (touch cell next) block known around h said (stop cause ∷ entries) = strays known.tables asked description (touch cell next) said (stop cause ∷ entries)
progress asked description (write cell value next) block known around h said [] = waits known.tables asked description (write cell value next) said refl
progress asked description (write cell value next) block known around h said (did answers.Written e ∷ entries) =
    let script = runs_script description next block known around in
    let now = with_call said (calls.Write cell value) in
    one_step known.tables asked description (write cell value next) next said (puts cell value) e entries (unless_short_in block known around script now entries)
    (λ steps left r. (refl, refl, r))
    (resumed asked description next block known around script h (λ s es. progress asked description next block known around h s es) now entries)
progress asked description (write cell value next) block known around h said (did (answers.Refused why) e ∷ entries) =
    let now = with_call said (calls.Write cell value) in
    declines known.tables asked description (write cell value next) said (did (answers.Refused why) e) entries why (declined block known around why now entries) refl tt refl refl
    (fails_answers asked (refusal_state why) block known around h now entries)
progress asked description (write cell value next) block known around h said (refused why ∷ entries) =
    let now = with_call said (calls.Write cell value) in
    declines known.tables asked description (write cell value next) said (refused why) entries why (declined block known around why now entries) refl tt refl refl
    (fails_answers asked (refusal_state why) block known around h now entries)
progress asked description (write cell value next) block known around h said (did a e ∷ entries) =
    strange known.tables asked description (write cell value next) said (did a e) entries tt refl
progress asked description (write cell value next) block known around h said (short final n ∷ entries) = strays known.tables asked description (write cell value next) said (short final n ∷ entries)
progress asked description (write cell value next) block known around h said (unsent n ∷ entries) = strays known.tables asked description (write cell value next) said (unsent n ∷ entries)
progress asked description (write cell value next) block known around h said (stop cause ∷ entries) = strays known.tables asked description (write cell value next) said (stop cause ∷ entries)
progress asked description (done outcome) block known around h said entries =
    let r = concludes_answers asked description outcome block known around h said entries in
    let result = concludes description outcome block known around said entries in
    no_steps known.tables asked description (done outcome) said entries result r.0 (finished outcome r.0.acts result.1 r.1)

-- ---- the statement

-- a statement that runs over these tables
pub runs_traced : (asked : List Statement) (statement : Statement) (tables : List Table) (t : Typed) (description : RowDescription) (as_told : description ≡ described.Told) (block : Block)
    (known : Knowledge) (around : Around)
    → tables ≡ known.tables → typed tables statement ≡ Ok t → AroundTraced asked around → Traced known.tables (statement ∷ asked) (runs_script description (course_of tables t) block known around)
runs_traced asked statement tables t description as_told block known around over types h said entries =
    let p = progress asked description (course_of tables t) block known around h said entries in
    let next = (runs_script description (course_of tables t) block known around said entries).1 in
    let r : Run = record { statement = statement; tables = tables; typed = t; steps = p.steps; entries = p.taken; left = p.left } in
    record {
      acts = runs r ∷ p.acts;
      rest = p.rest;
      entries_are = p.entries_are ∙ sym (append_assoc p.taken (entries_of p.acts) p.rest);
      bytes_are = p.bytes_are;
      calls_are = p.calls_are;
      whole = p.whole;
      is = (
        [],
        asked,
        refl,
        record { over = inl over; types = types; ran = p.ran; answered = p.answered },
        subst (λ (d : RowDescription). Ends d p.left p.acts next) as_told p.ends,
        p.is,
      );
    }

-- one that asks for nothing
concluded : (asked : List Statement) (statement : Statement) (tables : List Table) (t : Typed) (description : RowDescription) (as_told : description ≡ described.Told) (outcome : Outcome) (block : Block)
    (known : Knowledge) (around : Around)
    → tables ≡ [] → typed tables statement ≡ Ok t → course_of tables t ≡ done outcome → AroundTraced asked around
    → Traced known.tables (statement ∷ asked) (concludes description outcome block known around)
concluded asked statement tables t description as_told outcome block known around over types is h said entries =
    let c = concludes_answers asked description outcome block known around h said entries in
    let next = (concludes description outcome block known around said entries).1 in
    let r : Run = record { statement = statement; tables = tables; typed = t; steps = []; entries = []; left = done outcome } in
    record {
      acts = runs r ∷ c.0.acts;
      rest = c.0.rest;
      entries_are = c.0.entries_are;
      bytes_are = c.0.bytes_are;
      calls_are = c.0.calls_are;
      whole = c.0.whole;
      is = (
        [],
        asked,
        refl,
        record { over = inr (over, refl); types = types; ran = sym is; answered = tt },
        subst (λ (d : RowDescription). Ends d (done outcome) c.0.acts next) as_told (finished outcome c.0.acts next c.1),
        c.0.is,
      );
    }

pub at_once_traced : (asked : List Statement) (statement : Statement) (tables : List Table) (t : Typed) (description : RowDescription) (as_told : description ≡ described.Told) (course : Course) (block : Block)
    (known : Knowledge) (around : Around)
    → tables ≡ [] → typed tables statement ≡ Ok t → course_of tables t ≡ course → AroundTraced asked around
    → Traced known.tables (statement ∷ asked) (at_once description course block known around)
at_once_traced asked statement tables t description as_told (done outcome) block known around over types is h =
    concluded asked statement tables t description as_told outcome block known around over types is h
at_once_traced asked statement tables t description as_told (scan table next) block known around over types is h = lost_traced known.tables (statement ∷ asked)
at_once_traced asked statement tables t description as_told (touch cell next) block known around over types is h = lost_traced known.tables (statement ∷ asked)
at_once_traced asked statement tables t description as_told (write cell value next) block known around over types is h = lost_traced known.tables (statement ∷ asked)
