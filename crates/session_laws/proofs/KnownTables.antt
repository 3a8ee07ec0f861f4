-- The tables over which a statement runs are the first ones of the history.
use Rattle.std.proofs.Common.{◌≡◌, ◌⊎◌, inl, inr, ℕ, List, [], ◌∷◌, ◌++◌, length, map, refl, sym, ap, subst, ◌∙◌, append_assoc}
use Rattle.std.specs.Prelude.{⊤}
use Rattle.std.specs.List.{AllByRecursion}
use Rattle.std.proofs.lemmas.List.{append-nil}
use Rattle.history_core.specs.declared.event.Event.{Event}
use Rattle.history_core.specs.declared.fault.BookFault.{BookFault}
use Rattle.history_book.specs.Book.{Past, AnswersTables}
use Rattle.sql_tree.specs.declared.statement.Statement.{Statement}
use Rattle.sql_tree.specs.declared.table.Table.{Table}
use Rattle.block_machine.specs.Calls.{Call}
use Rattle.block_machine.specs.Calls as calls
use Rattle.block_machine.specs.Script.{Entry, did, refused, short, unsent, stop, Next}
use Rattle.block_machine.specs.declared.call.Answer.{Answer}
use Rattle.block_machine.specs.declared.call.Answer.TheVariants as answers
use Rattle.session_core.specs.Record.{Happens}
use Rattle.statement_laws.specs.Runs.{Step}
use Rattle.session_laws.specs.Acts.{Run, Act, tells, asks, meets, runs, call_of, AreAnswers, calls_of, entries_of}
use Rattle.session_laws.specs.Transcripts.{IsNote, Learns, IsTranscript}
use Rattle.session_laws.specs.PictureLaws.{AreFirst}
use Rattle.session_laws.proofs.AnsweredPictures.{IsAnswered, Extends, happens_extends, declines_extends, extends_to}

-- ---- first tables

front_on : (known ts us : List Table) → AreFirst known ts → (others : List Table) → us ≡ ts ++ others → AreFirst known us
front_on known ts us first others is = (first.0 ++ others, is ∙ ap (λ (xs : List Table). xs ++ others) first.1 ∙ append_assoc known first.0 others)

first_later : (known : List Table) (p q : Past) → AreFirst known p.seen.tables → Extends p q → AreFirst known q.seen.tables
first_later known p q first extends = front_on known p.seen.tables q.seen.tables first extends.others extends.tables

-- two fronts of a list that are as long
same_front : (xs ys as' bs : List Table) → length xs ≡ length ys → xs ++ as' ≡ ys ++ bs → xs ≡ ys
same_front [] [] as' bs count is = refl
same_front [] (y ∷ ys) as' bs count is = absurd (cc)
same_front (x ∷ xs) [] as' bs count is = absurd (cc)
same_front (x ∷ xs) (y ∷ ys) as' bs count is =
    let heads : x ≡ y = cc in
    let tails : xs ++ as' ≡ ys ++ bs = cc in
    let counts : length xs ≡ length ys = cc in
    ap (λ (z : Table). z ∷ xs) heads ∙ ap (λ (zs : List Table). y ∷ zs) (same_front xs ys as' bs counts tails)

-- a look shows the tables after those that are known
looked : (known tables : List Table) (p m : Past) (number : ℕ) → AreFirst known m.seen.tables → AnswersTables p number tables m → number ≡ length known
    → AreFirst (known ++ tables) m.seen.tables
looked known tables p m number first a count =
    let same : a.before ≡ known = same_front a.before known tables first.0 (a.known_is ∙ count) (sym a.whole ∙ first.1) in
    ([], a.whole ∙ (ap (λ (xs : List Table). xs ++ tables) same ∙ sym (append-nil (known ++ tables))))

learned : (known : List Table) (c : Call) (a : Answer) (e : Event) (after : List Table) (p m : Past) → Learns known c (did a e) after → Happens p c a e m
    → AreFirst known m.seen.tables → AreFirst after m.seen.tables
learned known (calls.Look number) (answers.Looked tables) e after p m (count, inl more) happens first =
    subst (λ (xs : List Table). AreFirst xs m.seen.tables) (sym more) (looked known tables p m number first happens.1 count)
learned known (calls.Look number) (answers.Looked tables) e after p m (count, inr same) happens first =
    subst (λ (xs : List Table). AreFirst xs m.seen.tables) (sym same) first
learned known _ _ e after p m same happens first = subst (λ (xs : List Table). AreFirst xs m.seen.tables) (sym same) first

not_learned : (known : List Table) (c : Call) (why : BookFault) (after : List Table) → Learns known c (refused why) after → after ≡ known
not_learned known (calls.Look number) why after h = h
not_learned known _ why after h = h

-- ---- a record that goes on

after_short : (p : Past) (cs : List Call) (es : List Entry) (q : Past) (note : Entry) → IsNote note → IsAnswered p cs (note ∷ es) q → IsAnswered p cs es q
after_short p [] es q (short final n) bare l = l
after_short p (c ∷ cs) es q (short final n) bare l = l
after_short p [] es q (unsent n) bare l = l
after_short p (c ∷ cs) es q (unsent n) bare l = l
after_short p [] es q (stop cause) bare l = l
after_short p (c ∷ cs) es q (stop cause) bare l = l
after_short p cs es q (did a e) bare l = absurd bare
after_short p cs es q (refused why) bare l = absurd bare

-- the past after the steps of a run
record Following (p : Past) (cs : List Call) (es : List Entry) (q : Past) : Type 0 where
  past : Past
  extends : (known : List Table) → AreFirst known p.seen.tables → AreFirst known past.seen.tables
  answered : IsAnswered past cs es q

after_steps : (steps : List Step) (taken : List Entry) (p : Past) (cs : List Call) (es : List Entry) (q : Past) → AreAnswers steps taken
    → IsAnswered p (map call_of steps ++ cs) (taken ++ es) q → Following p cs es q
after_steps [] [] p cs es q answers l = record { past = p; extends = λ known first. first; answered = l }
after_steps (step ∷ steps) (did a e ∷ taken) p cs es q answers l =
    let more = after_steps steps taken l.0 cs es q answers.1 l.4 in record {
      past = more.past;
      extends = λ known first. more.extends known (first_later known p l.0 first (happens_extends p (call_of step) a e l.0 l.2));
      answered = more.answered;
    }
after_steps [] (entry ∷ taken) p cs es q answers l = absurd answers
after_steps (step ∷ steps) [] p cs es q answers l = absurd answers
after_steps (step ∷ steps) (refused why ∷ taken) p cs es q answers l = absurd answers
after_steps (step ∷ steps) (short final n ∷ taken) p cs es q answers l = absurd answers
after_steps (step ∷ steps) (unsent n ∷ taken) p cs es q answers l = absurd answers
after_steps (step ∷ steps) (stop cause ∷ taken) p cs es q answers l = absurd answers

-- ---- the tables of each run

abbrev pub RunsOverFirst : List Table → Act → Type 0
RunsOverFirst tables (runs r) = AreFirst r.tables tables
RunsOverFirst tables _ = ⊤

over_first : (known : List Table) (r : Run) (p q : Past) → (r.tables ≡ known) ⊎ ((r.tables ≡ []) × (r.steps ≡ [])) → AreFirst known p.seen.tables → Extends p q
    → AreFirst r.tables q.seen.tables
over_first known r p q (inl same) first extends =
    subst (λ (xs : List Table). AreFirst xs q.seen.tables) (sym same) (first_later known p q first extends)
over_first known r p q (inr none) first extends = subst (λ (xs : List Table). AreFirst xs q.seen.tables) (sym none.0) (q.seen.tables, refl)

pub runs_over_first : (known : List Table) (asked : List Statement) (acts : List Act) (next : Next) (rest : List Entry) (p q : Past)
    → IsTranscript known asked acts next → IsAnswered p (calls_of acts) (entries_of acts ++ rest) q → AreFirst known p.seen.tables
    → AllByRecursion (RunsOverFirst q.seen.tables) acts
runs_over_first known asked [] next rest p q is l first = tt
runs_over_first known asked (tells bytes ∷ acts) next rest p q is l first = (tt, runs_over_first known asked acts next rest p q is l first)
runs_over_first known asked (asks c (did a e) ∷ acts) next rest p q is l first =
    let known_then = learned known c a e is.0 p l.0 is.2 l.2 (first_later known p l.0 first (happens_extends p c a e l.0 l.2)) in
    (tt, runs_over_first is.0 asked acts next rest l.0 q is.3 l.4 known_then)
runs_over_first known asked (asks c (refused why) ∷ acts) next rest p q is l first =
    let same = not_learned known c why is.0 is.2 in
    let known_then = subst (λ (xs : List Table). AreFirst xs l.0.seen.tables) (sym same) (first_later known p l.0 first (declines_extends p c why l.0 l.2)) in
    (tt, runs_over_first is.0 asked acts next rest l.0 q is.3 l.4 known_then)
runs_over_first known asked (asks c (short final n) ∷ acts) next rest p q is l first = absurd is.1
runs_over_first known asked (asks c (unsent n) ∷ acts) next rest p q is l first = absurd is.1
runs_over_first known asked (asks c (stop cause) ∷ acts) next rest p q is l first = absurd is.1
runs_over_first known asked (meets entry ∷ acts) next rest p q is l first =
    (tt, runs_over_first known asked acts next rest p q is.1 (after_short p (calls_of acts) (entries_of acts ++ rest) q entry is.0 l) first)
runs_over_first known asked (runs r ∷ acts) next rest p q is l first =
    let whole = subst (λ (es : List Entry). IsAnswered p (map call_of r.steps ++ calls_of acts) es q) (append_assoc r.entries (entries_of acts) rest) l in
    let following = after_steps r.steps r.entries p (calls_of acts) (entries_of acts ++ rest) q is.3.answered whole in (
      over_first known r p q is.3.over first (extends_to p (map call_of r.steps ++ calls_of acts) (r.entries ++ (entries_of acts ++ rest)) q whole),
      runs_over_first known is.1 acts next rest following.past q is.5 following.answered (following.extends known first),
    )
