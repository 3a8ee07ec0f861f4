-- Each statement that ran did so over one picture.
use Rattle.std.proofs.Common.{ℕ, List, [], ◌∷◌, ◌++◌, ◌≡◌, map, refl, subst, append_assoc}
use Rattle.std.specs.List.{AllByRecursion}
use Rattle.history_core.specs.declared.event.Event.{Event}
use Rattle.sql_tree.specs.declared.statement.Statement.{Statement}
use Rattle.sql_tree.specs.declared.table.Table.{Table}
use Rattle.block_machine.specs.Calls.{Call}
use Rattle.block_machine.specs.Script.{Entry, did, refused, short, unsent, stop, Said, Next, ended}
use Rattle.block_machine.specs.declared.call.Answer.{Answer}
use Rattle.history_book.specs.Book.{Past}
use Rattle.history_core.specs.Legal.{IsFormed}
use Rattle.cell_base.specs.declared.level.Level.{Level}
use Rattle.session_core.specs.Requests.{Requests}
use Rattle.session_core.specs.Told.{told}
use Rattle.statement_laws.specs.Runs.{Step, lists, finds, puts, ListsOnce}
use Rattle.statement_laws.specs.RunLaws.{IsRun}
use Rattle.statement_laws.proofs.Answering.{run_pictured}
use Rattle.session_laws.specs.Acts.{Run, Act, tells, asks, meets, runs, call_of, answer_of, AreAnswers, IsEventOf, AreEvents, calls_of, entries_of}
use Rattle.session_laws.specs.Transcripts.{IsStatementRun, IsTranscript}
use Rattle.session_laws.specs.PictureLaws.{statements_of, Transcript, AreFirst, HasOnePicture, RanOverPicture, EachStatementHasOnePicture, ServedStatementsHavePictures}
use Rattle.session_laws.proofs.AnsweredPictures.{IsAnswered, any_words, IsGood, AreGood, are_good}
use Rattle.session_laws.proofs.KnownTables.{RunsOverFirst, runs_over_first}
use Rattle.session_laws.proofs.PicturedSessions.{session_transcript}

step_good : (step : Step) (e : Event) → IsGood (call_of step) (answer_of step) e → ListsOnce step × IsEventOf step e
step_good (lists table keys) e h = h
step_good (finds cell value) e h = (tt, h)
step_good (puts cell value) e h = (tt, h)

-- the steps of a run, and what comes after them
steps_good : (steps : List Step) (taken : List Entry) (cs : List Call) (es : List Entry) → AreAnswers steps taken
    → AreGood (map call_of steps ++ cs) (taken ++ es) → AllByRecursion ListsOnce steps × AreEvents steps taken × AreGood cs es
steps_good [] [] cs es answered h = (tt, tt, h)
steps_good (step ∷ steps) (did a e ∷ taken) cs es answered h =
    let one = step_good step e (subst (λ (x : Answer). IsGood (call_of step) x e) answered.0 h.0) in
    let others = steps_good steps taken cs es answered.1 h.1 in
    ((one.0, others.0), (one.1, others.1), others.2)
steps_good [] (entry ∷ taken) cs es answered h = absurd answered
steps_good (step ∷ steps) [] cs es answered h = absurd answered
steps_good (step ∷ steps) (refused why ∷ taken) cs es answered h = absurd answered
steps_good (step ∷ steps) (short final n ∷ taken) cs es answered h = absurd answered
steps_good (step ∷ steps) (unsent n ∷ taken) cs es answered h = absurd answered
steps_good (step ∷ steps) (stop cause ∷ taken) cs es answered h = absurd answered

run_shown : (tables known : List Table) (r : Run) → IsStatementRun known r → AreFirst r.tables tables → AllByRecursion ListsOnce r.steps → AreEvents r.steps r.entries
    → HasOnePicture tables r
run_shown tables known r is first once events =
    let run : IsRun r.tables r.typed r.steps r.left = record { statement = r.statement; types = is.types; ran = is.ran; once = once } in
    record { first = first; events = events; once = once; shown = run_pictured r.tables r.typed r.steps r.left run }

acts_shown : (tables known : List Table) (asked : List Statement) (acts : List Act) (next : Next) (rest : List Entry) → IsTranscript known asked acts next
    → AreGood (calls_of acts) (entries_of acts ++ rest) → AllByRecursion (RunsOverFirst tables) acts → AllByRecursion (RanOverPicture tables) acts
acts_shown tables known asked [] next rest is h f = tt
acts_shown tables known asked (tells bytes ∷ acts) next rest is h f = (tt, acts_shown tables known asked acts next rest is h f.1)
acts_shown tables known asked (asks c (did a e) ∷ acts) next rest is h f = (tt, acts_shown tables is.0 asked acts next rest is.3 h.1 f.1)
acts_shown tables known asked (asks c (refused why) ∷ acts) next rest is h f = (tt, acts_shown tables is.0 asked acts next rest is.3 h f.1)
acts_shown tables known asked (asks c (short final n) ∷ acts) next rest is h f = absurd is.1
acts_shown tables known asked (asks c (unsent n) ∷ acts) next rest is h f = absurd is.1
acts_shown tables known asked (asks c (stop cause) ∷ acts) next rest is h f = absurd is.1
acts_shown tables known asked (meets (did a e) ∷ acts) next rest is h f = absurd is.0
acts_shown tables known asked (meets (refused why) ∷ acts) next rest is h f = absurd is.0
acts_shown tables known asked (meets (short final n) ∷ acts) next rest is h f = (tt, acts_shown tables known asked acts next rest is.1 h f.1)
acts_shown tables known asked (meets (unsent n) ∷ acts) next rest is h f = (tt, acts_shown tables known asked acts next rest is.1 h f.1)
acts_shown tables known asked (meets (stop cause) ∷ acts) next rest is h f = (tt, acts_shown tables known asked acts next rest is.1 h f.1)
acts_shown tables known asked (runs r ∷ acts) next rest is h f =
    let parts = steps_good r.steps r.entries (calls_of acts) (entries_of acts ++ rest) is.3.answered
    (subst (λ (es : List Entry). AreGood (map call_of r.steps ++ calls_of acts) es) (append_assoc r.entries (entries_of acts) rest) h) in
    (run_shown tables known r is.3 f.0 parts.0 parts.1, acts_shown tables known is.1 acts next rest is.5 parts.2 f.1)

answered_over_one_picture : (level : Level) (requests : Requests) (entries : List Entry) (said : Said) (next : Next) (p q : Past)
    → told level requests entries ≡ (said, next) → IsAnswered p said.calls entries q → IsFormed q.seen.initial q.seen.events
    → (t : Transcript (statements_of requests) entries said next) × AllByRecursion (RanOverPicture q.seen.tables) t.acts
answered_over_one_picture level requests entries said next p q is answered formed =
    let t = session_transcript level requests entries said next is in
    let record_is = subst (λ (cs : List Call). IsAnswered p cs (entries_of t.acts ++ t.rest) q) t.calls_are
    (subst (λ (es : List Entry). IsAnswered p said.calls es q) t.entries_are answered) in
    let first = runs_over_first [] (statements_of requests) t.acts next t.rest p q t.is record_is (p.seen.tables, refl) in
    let good = are_good q.seen.initial p (calls_of t.acts) (entries_of t.acts ++ t.rest) q record_is formed in
    (t, acts_shown q.seen.tables [] (statements_of requests) t.acts next t.rest t.is good first)

pub each_over_one_picture : {W : Type 0} (gives : W → ℕ → W → Type 0) → EachStatementHasOnePicture gives
each_over_one_picture gives level requests entries said next p v q w is valid formed =
    answered_over_one_picture level requests entries said next p q is (any_words gives p v said.calls entries q w valid) formed

pub served_over_pictures : {W : Type 0} (gives : W → ℕ → W → Type 0) → ServedStatementsHavePictures gives
served_over_pictures gives level before outcome after account s legal =
    each_over_one_picture gives level s.requests account.entries (record { bytes = account.sent; calls = account.calls }) (ended outcome.end)
    before.past before.words after.past after.words s.told_is s.valid legal.legal.formed
