-- What a book saw before begins what it sees later.
use Rattle.std.proofs.Common.{◌≡◌, ℕ, List, [], ◌∷◌, ◌++◌, sym, ◌∙◌, ap, subst}
use Rattle.std.proofs.lemmas.List.{append_assoc}
use Rattle.cell_base.specs.declared.level.Level.{Level}
use Rattle.sql_tree.specs.declared.table.Table.{Table}
use Rattle.history_core.specs.declared.event.Event.{Event}
use Rattle.history_core.specs.declared.fault.BookFault.{BookFault}
use Rattle.history_core.specs.declared.fault.BookFault.TheVariants as faults
use Rattle.history_core.specs.declared.fault.DefineAnswer.TheVariants as defines
use Rattle.history_core.specs.Chronicle.{Chronicle}
use Rattle.history_book.specs.Book.{Past, Adds, GoesOn}
use Rattle.block_machine.specs.Calls.{Call}
use Rattle.block_machine.specs.Calls as calls
use Rattle.block_machine.specs.declared.call.Answer.{Answer}
use Rattle.block_machine.specs.declared.call.Answer.TheVariants as answers
use Rattle.block_machine.specs.Script.{Entry, did, refused, short, unsent, stop}
use Rattle.session_core.specs.Record.{Happens, Declines, IsValidRecord}
use Rattle.door_workers.specs.Visits.{Visit, AreVisits}
use Rattle.shared_book.specs.Fronts.{IsFrontOf}
use Rattle.serve_command.specs.Earlier.{BeginsAs}

pub begins_as : (seen history : Chronicle) → IsFrontOf seen history → BeginsAs seen history
begins_as seen history front = record {
  level = front.level;
  initial = front.initial;
  later = front.later;
  events = front.events;
  more = front.more;
  tables = front.tables;
}

-- what was seen before a call that added to it
grown : (old new : Past) (others : List Event) (more : List Table) (history : Chronicle) → new.seen.level ≡ old.seen.level →
    new.seen.initial ≡ old.seen.initial → new.seen.events ≡ old.seen.events ++ others → new.seen.tables ≡ old.seen.tables ++ more →
    BeginsAs new.seen history → BeginsAs old.seen history
grown old new others more history level initial events tables begins = record {
  level = sym level ∙ begins.level;
  initial = sym initial ∙ begins.initial;
  later = others ++ begins.later;
  events = begins.events ∙ ap (λ (l : List Event). l ++ begins.later) events ∙ append_assoc old.seen.events others begins.later;
  more = more ++ begins.more;
  tables = begins.tables ∙ ap (λ (l : List Table). l ++ begins.more) tables ∙ append_assoc old.seen.tables more begins.more;
}

before_adds : (old : Past) (e : Event) (new : Past) (history : Chronicle) → Adds old e new → BeginsAs new.seen history → BeginsAs old.seen history
before_adds old e new history adds begins =
    grown old new (adds.others ++ e ∷ []) adds.more history adds.level adds.initial
    (adds.seen ∙ append_assoc old.seen.events adds.others (e ∷ [])) adds.tables begins

before_goes : (old new : Past) (history : Chronicle) → GoesOn old new → BeginsAs new.seen history → BeginsAs old.seen history
before_goes old new history goes begins = grown old new goes.others goes.more history goes.level goes.initial goes.seen goes.tables begins

before_answer : (p : Past) (c : Call) (a : Answer) (e : Event) (q : Past) (history : Chronicle) → Happens p c a e q → BeginsAs q.seen history →
    BeginsAs p.seen history
before_answer p calls.Open (answers.Opened s) e q history h = before_adds p _ q history h.1
before_answer p calls.Close answers.Closed e q history h = before_adds p _ q history h.1
before_answer p (calls.Look known) (answers.Looked tables) e q history h = before_adds p _ q history h.1.adds
before_answer p (calls.Define t) (answers.Defined (defines.Defined n)) e q history h = before_adds p _ q history h.1.3
before_answer p (calls.Define t) (answers.Defined (defines.Taken n)) e q history h = before_adds p _ q history h.1.2
before_answer p (calls.Begin level) (answers.Begun n) e q history h = before_adds p _ q history h.1
before_answer p (calls.Scan table) (answers.Listed keys) e q history h = before_adds p _ q history h.1
before_answer p (calls.Touch cell) (answers.Found value) e q history h = before_adds p _ q history h.1
before_answer p (calls.Write cell value) answers.Written e q history h = before_adds p _ q history h.1
before_answer p calls.Commit answers.Committed e q history h = before_adds p _ q history h.1
before_answer p calls.Rollback answers.RolledBack e q history h = before_adds p _ q history h.1
before_answer p calls.Show (answers.Shown n) e q history h = before_adds p _ q history h.1
before_answer p _ _ e q history h = absurd h

before_refusal : (p : Past) (c : Call) (why : BookFault) (q : Past) (history : Chronicle) → Declines p c why q → BeginsAs q.seen history →
    BeginsAs p.seen history
before_refusal p c (faults.Full limit) q history d = before_goes p q history d.1
before_refusal p c faults.Memory q history d = before_goes p q history d.1

pub before_record : {W : Type 0} (gives : W → ℕ → W → Type 0) (history : Chronicle) (p q : Past) (v w : W) (cs : List Call) (es : List Entry) →
    IsValidRecord gives p v cs es q w → BeginsAs q.seen history → BeginsAs p.seen history
before_record gives history p q v w [] [] l b = subst (λ (x : Past). BeginsAs x.seen history) l.0 b
before_record gives history p q v w (c ∷ cs) [] l b = absurd l
before_record gives history p q v w [] (did a e ∷ es) l b = absurd l
before_record gives history p q v w [] (refused why ∷ es) l b = absurd l
before_record gives history p q v w [] (short final n ∷ es) l b = before_record gives history p q v w [] es l b
before_record gives history p q v w [] (unsent n ∷ es) l b = before_record gives history p q v w [] es l b
before_record gives history p q v w [] (stop cause ∷ es) l b = before_record gives history p q v w [] es l b
before_record gives history p q v w (c ∷ cs) (did a e ∷ es) l b =
    before_answer p c a e l.0 history l.2 (before_record gives history l.0 q l.1 w cs es l.4 b)
before_record gives history p q v w (c ∷ cs) (refused why ∷ es) l b =
    before_refusal p c why l.0 history l.2 (before_record gives history l.0 q l.1 w cs es l.4 b)
before_record gives history p q v w (c ∷ cs) (short final n ∷ es) l b = before_record gives history p q v w (c ∷ cs) es l b
before_record gives history p q v w (c ∷ cs) (unsent n ∷ es) l b = before_record gives history p q v w (c ∷ cs) es l b
before_record gives history p q v w (c ∷ cs) (stop cause ∷ es) l b = before_record gives history p q v w (c ∷ cs) es l b

pub before_visits : {W : Type 0} (gives : W → ℕ → W → Type 0) (history : Chronicle) (level : Level) (p q : Past) (v w : W) (visits : List Visit) →
    AreVisits gives level p v visits q w → BeginsAs q.seen history → BeginsAs p.seen history
before_visits gives history level p q v w [] are b = subst (λ (x : Past). BeginsAs x.seen history) are.0 b
before_visits gives history level p q v w (visit ∷ visits) are b =
    before_record gives history p are.0 v are.1 visit.account.calls visit.account.entries are.2.valid
    (before_visits gives history level are.0 q are.1 w visits are.4 b)
