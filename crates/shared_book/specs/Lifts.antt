-- What a call does within a turn it does also for a book that has seen less of the history, and has other events of its own.
use Rattle.std.specs.Prelude.{◌≡◌, ◌≤◌, ◌<◌, ℕ, List, [], ◌∷◌, ◌++◌, length, Contains, Result, Ok, Err, IfOk, OnOk, OnErr}
use Rattle.std.proofs.Common.{sym, ap, ◌∙◌, subst, append_assoc, inl, inr}
use Rattle.std.proofs.lemmas.List.{append-nil, append_cancel_left}
use Rattle.std.proofs.lemmas.List.Elements.{Contains-push}
use Rattle.std.proofs.Math.Nat.{le_trans, lt_of_lt_of_le}
use Rattle.cell_base.specs.declared.cell.Cell.{Cell}
use Rattle.cell_base.specs.declared.key.Key.{Key}
use Rattle.cell_base.specs.declared.level.Level.{Level}
use Rattle.cell_base.specs.declared.value.Value.{Value}
use Rattle.sql_tree.specs.declared.table.Table.{Table}
use Rattle.history_core.specs.declared.event.Event.{Event}
use Rattle.history_core.specs.declared.fault.BookFault.{BookFault}
use Rattle.history_core.specs.declared.fault.DefineAnswer.{DefineAnswer}
use Rattle.history_core.specs.declared.fault.DefineAnswer.TheVariants.{Defined, Taken}
use Rattle.history_core.specs.declared.event.Event.TheVariants as events
use Rattle.history_core.specs.Chronicle.{Chronicle}
use Rattle.history_core.specs.Events.{table_of}
use Rattle.history_core.specs.Initial.{IsStorable}
use Rattle.history_book.specs.Book.{Past, SessionState, HasSession, IsInTransaction, session_of, GoesOn, Adds, AddsRead, AnswersTables, AnswersDefine, AnswersTouch}
use Rattle.shared_book.specs.Turns.{LiesBetween, past_with}
use Rattle.shared_book.specs.Calls.{Opens, Closes, Looks, Defines, Begins, Scans, Touches, Writes, Commits, RollsBack, Shows}

if_ok : {A E : Type 0} (P Q : A → Type 0) (r : Result A E) → ((a : A) → P a → Q a) → IfOk r P → IfOk r Q
if_ok P Q (Ok a) f h = f a h
if_ok P Q (Err e) f h = h

on_ok : {A E : Type 0} (P Q : Type 0) (r : Result A E) → (P → Q) → OnOk r P → OnOk r Q
on_ok P Q (Ok a) f h = f h
on_ok P Q (Err e) f h = h

on_err : {A E : Type 0} (P Q : Type 0) (r : Result A E) → (P → Q) → OnErr r P → OnErr r Q
on_err P Q (Ok a) f h = h
on_err P Q (Err e) f h = f h

module _ (before x y : Chronicle) (own mine added : List Event) (state after : SessionState) (lies : LiesBetween before x y state added) where
  abbrev old : Past
  old = past_with before own state

  abbrev new : Past
  new = past_with y (own ++ added) after

  abbrev found : Past
  found = past_with x mine state

  abbrev left : Past
  left = past_with y (mine ++ added) after

  pub adds_lift : (e : Event) → Adds found e left → Adds old e new
  adds_lift e adds =
      let one : added ≡ e ∷ [] = append_cancel_left mine added (e ∷ []) adds.own in
      record {
        level = adds.level ∙ lies.level;
        initial = adds.initial ∙ lies.initial;
        others = lies.others;
        seen = lies.grown ∙ (λ i. lies.seen i ++ one i);
        foreign = lies.apart e (subst (λ (l : List Event). Contains l e) (sym one) (Contains-push [] e));
        more = lies.more ++ adds.more;
        tables = adds.tables ∙ ap (λ (l : List Table). l ++ adds.more) lies.tables ∙ append_assoc before.tables lies.more adds.more;
        own = ap (λ (l : List Event). own ++ l) one;
      }

  pub goes_lift : GoesOn found left → GoesOn old new
  goes_lift goes =
      let none : added ≡ [] = append_cancel_left mine added [] (goes.own ∙ sym (append-nil mine)) in
      record {
        level = goes.level ∙ lies.level;
        initial = goes.initial ∙ lies.initial;
        others = lies.others;
        seen = lies.grown ∙ (λ i. lies.seen i ++ none i) ∙ append-nil (before.events ++ lies.others);
        foreign = lies.foreign;
        more = lies.more ++ goes.more;
        tables = goes.tables ∙ ap (λ (l : List Table). l ++ goes.more) lies.tables ∙ append_assoc before.tables lies.more goes.more;
        own = ap (λ (l : List Event). own ++ l) none ∙ append-nil own;
        state = goes.state;
      }

  err_lift : {A : Type 0} (r : Result A BookFault) → OnErr r (GoesOn found left) → OnErr r (GoesOn old new)
  err_lift r h = on_err (GoesOn found left) (GoesOn old new) r goes_lift h

  pub opens_lift : (r : Result ℕ BookFault) → Opens found r left → Opens old r new
  opens_lift r does = record {
    ok = if_ok (λ n. Adds found (events.Open n) left) (λ n. Adds old (events.Open n) new) r (λ n adds. adds_lift (events.Open n) adds) does.ok;
    state = does.state;
    err = err_lift r does.err;
    full = does.full;
  }

  pub closes_lift : Closes found left → Closes old new
  closes_lift does = record { adds = adds_lift (events.Close (session_of state)) does.adds; state = does.state }

  pub looks_lift : (known : ℕ) (r : Result (List Table) BookFault) → Looks known found r left → Looks known old r new
  looks_lift known r does = record {
    ok = if_ok (λ tables. AnswersTables found known tables left) (λ tables. AnswersTables old known tables new) r
        (λ tables told. record {
          before = told.before;
          whole = told.whole;
          known_is = told.known_is;
          adds = adds_lift (events.Look (session_of state) (length y.tables)) told.adds;
        }) does.ok;
    state = does.state;
    err = err_lift r does.err;
    full = does.full;
  }

  answers_lift : (table : Table) (answer : DefineAnswer) → AnswersDefine found table answer left → AnswersDefine old table answer new
  answers_lift table (Defined n) told = (told.0, told.1, told.2, adds_lift (events.Define (session_of state) table.name) told.3)
  answers_lift table (Taken n) told = (told.0, told.1, adds_lift (events.Look (session_of state) n) told.2)

  pub defines_lift : (table : Table) (r : Result DefineAnswer BookFault) → Defines table found r left → Defines table old r new
  defines_lift table r does = record {
    ok = if_ok (λ answer. AnswersDefine found table answer left) (λ answer. AnswersDefine old table answer new) r
        (λ answer told. answers_lift table answer told) does.ok;
    state = does.state;
    err = err_lift r does.err;
    full = does.full;
    load_first = does.load_first;
  }

  pub begins_lift : (level : Level) (r : Result ℕ BookFault) → Begins level found r left → Begins level old r new
  begins_lift level r does = record {
    ok = if_ok (λ n. Adds found (events.Begin (session_of state) level) left) (λ n. Adds old (events.Begin (session_of state) level) new) r
        (λ n adds. adds_lift (events.Begin (session_of state) level) adds) does.ok;
    number = does.number;
    state = does.state;
    err = err_lift r does.err;
    full = does.full;
  }

  pub scans_lift : (table : ℕ) (r : Result (List Key) BookFault) → Scans table found r left → Scans table old r new
  scans_lift table r does = record {
    ok = if_ok (λ keys. Adds found (events.Scan (session_of state) table keys) left) (λ keys. Adds old (events.Scan (session_of state) table keys) new) r
        (λ keys adds. adds_lift (events.Scan (session_of state) table keys) adds) does.ok;
    listed = does.listed;
    state = does.state;
    err = err_lift r does.err;
    full = does.full;
  }

  touch_lift : {W : Type 0} (gives : W → ℕ → W → Type 0) (v : W) (cell : Cell) (r : Result Value BookFault) (w : W) →
      AnswersTouch gives found v cell r left w → AnswersTouch gives old v cell r new w
  touch_lift gives v cell r w (inl (back, same)) = inl (
    record {
      written = back.written;
      ok = if_ok (λ value. Adds found (events.Own (session_of state) cell value) left) (λ value. Adds old (events.Own (session_of state) cell value) new) r
          (λ value adds. adds_lift (events.Own (session_of state) cell value) adds) back.ok;
      last = back.last;
    },
    same,
  )
  touch_lift gives v cell r w (inr (word, drawn, read)) = inr (
    word,
    drawn,
    record {
      unwritten = read.unwritten;
      ok = if_ok (λ value. AddsRead found cell word value left) (λ value. AddsRead old cell word value new) r
          (λ value one. record {
            source = one.source;
            count = one.count;
            adds = adds_lift (events.Read (session_of state) cell one.source one.count word value) one.adds;
          }) read.ok;
    },
  )

  pub touches_lift : {W : Type 0} (gives : W → ℕ → W → Type 0) (cell : Cell) (v : W) (r : Result Value BookFault) (w : W) →
      Touches gives cell found v r left w → Touches gives cell old v r new w
  touches_lift gives cell v r w does = record {
    answers = touch_lift gives v cell r w does.answers;
    state = does.state;
    err = err_lift r does.err;
    full = does.full;
  }

  pub writes_lift : (cell : Cell) (value : Value) (r : Result (Unit {0}) BookFault) → Writes cell value found r left → Writes cell value old r new
  writes_lift cell value r does = record {
    ok = on_ok (Adds found (events.Write (session_of state) cell value) left) (Adds old (events.Write (session_of state) cell value) new) r
        (λ adds. adds_lift (events.Write (session_of state) cell value) adds) does.ok;
    state = does.state;
    err = err_lift r does.err;
    full = does.full;
  }

  pub commits_lift : Commits found left → Commits old new
  commits_lift does = record { adds = adds_lift (events.Commit (session_of state)) does.adds; state = does.state }

  pub rolls_back_lift : RollsBack found left → RollsBack old new
  rolls_back_lift does = record { adds = adds_lift (events.Rollback (session_of state)) does.adds; state = does.state }

  pub shows_lift : (r : Result ℕ BookFault) → Shows found r left → Shows old r new
  shows_lift r does = record {
    ok = if_ok (λ n. Adds found (events.Show (session_of state) n) left) (λ n. Adds old (events.Show (session_of state) n) new) r
        (λ n adds. adds_lift (events.Show (session_of state) n) adds) does.ok;
    number = does.number;
    state = does.state;
    err = err_lift r does.err;
    full = does.full;
  }

-- a call that may be made may be made also where there are more tables
pub looks_later : (known few many : ℕ) (state : SessionState) → few ≤ many → HasSession state × (known ≤ few) → HasSession state × (known ≤ many)
looks_later known few many state le may = (may.0, le_trans may.1 le)

pub in_table_later : (table few many : ℕ) (state : SessionState) → few ≤ many → IsInTransaction state × (table < few) →
    IsInTransaction state × (table < many)
in_table_later table few many state le may = (may.0, lt_of_lt_of_le may.1 le)

pub touches_later : (cell : Cell) (few many : ℕ) (state : SessionState) → few ≤ many → IsInTransaction state × (table_of cell < few) →
    IsInTransaction state × (table_of cell < many)
touches_later cell few many state le may = (may.0, lt_of_lt_of_le may.1 le)

pub writes_later : (cell : Cell) (value : Value) (few many : ℕ) (state : SessionState) → few ≤ many →
    IsInTransaction state × IsStorable value × (table_of cell < few) → IsInTransaction state × IsStorable value × (table_of cell < many)
writes_later cell value few many state le may = (may.0, may.1, lt_of_lt_of_le may.2 le)
