-- How the session of a book stands after each event.
use Rattle.std.proofs.Common.{Option, ◌⊎◌, ◌≡◌, ℕ, ◌+◌, ◌<◌, List, [], ◌∷◌, ◌++◌, Some, None, true, Ok, Err, Result, length, arith, refl, ap, sym, ◌∙◌, subst, inl, inr}
use Rattle.std.specs.Prelude.{OnOk, OnErr, IfSome, IfNone}
use Rattle.history_book.specs.Book.{HasSession, session_of}
use Rattle.std.specs.List.{Contains}
use Rattle.std.proofs.lemmas.List.{length_push}
use Rattle.std.proofs.lemmas.List.Elements.{All-nil, Contains-push_cases, Contains-push}
use Rattle.std.proofs.lemmas.Bool.{false≢true}
use Rattle.cell_base.specs.declared.level.Level.{Level}
use Rattle.cell_base.specs.declared.key.Key.{Key}
use Rattle.cell_base.specs.declared.cell.Cell.{Cell}
use Rattle.cell_base.specs.declared.value.Value.{Value}
use Rattle.history_core.specs.declared.event.Event.{Event}
use Rattle.history_core.specs.declared.event.Event.TheVariants.{Open, Close, Define, Look, Begin, Scan, Read, Own, Write, Show}
use Rattle.history_core.specs.Events.{begun, opened, session_in, is_end, table_of}
use Rattle.history_core.specs.Transactions.{HasPending}
use Rattle.history_core.specs.Initial.{IsInitialState}
use Rattle.history_core.specs.Legal.{IsFormed, IsOpen, Follows, WroteItself}
use Rattle.history_core.specs.Relations.{WritesValue}
use Rattle.history_core.proofs.TablesFew.{formed_of, tables_defined}
use Rattle.history_core.specs.Chronicle.{Chronicle, IsLegalChronicle}
use Rattle.sql_tree.specs.declared.table.Table.{Table}
use Rattle.sound_table.specs.Sound.{IsSound}
use Rattle.history_core.proofs.Next.{pending_kept, pending_back, pending_begin}
use Rattle.history_core.proofs.Numbers.{opened_bounds, pending_opened, closed_opened}
use Rattle.history_core.proofs.SessionLemmas.{open_still, IsPlain}
use Rattle.valid_writes.specs.declared.desk.Stage.{Stage}
use Rattle.valid_writes.specs.declared.desk.Stage.TheVariants.{NoSession, InSession, Pending}
use Rattle.valid_writes.specs.declared.desk.Desk.{Desk}
use Rattle.valid_writes.specs.Store.{IsStore}
use Rattle.valid_writes.specs.Seats.{StandsIn}
use Rattle.valid_writes.specs.Desk.{note, state_of, Stands, IsServed, IsDesk, GoesTo, Stays, DefinesTo}

-- a plain event that isn't a write
pub record WritesNone (e : Event) : Type 0 where
  pub plain : IsPlain e
  pub notes_none : (writes : List (Cell × Value)) → note writes e ≡ writes

plain_write : (s : ℕ) (cell : Cell) (value : Value) → IsPlain (Write s cell value)
plain_write s cell value =
    record { no_open = λ t is. cc; no_close = λ t is. cc; no_begin = λ t l is. cc; no_end = refl; opens_none = refl; begins_none = refl }

pub quiet_look : (s count : ℕ) → WritesNone (Look s count)
quiet_look s count = record {
  plain = record { no_open = λ t is. cc; no_close = λ t is. cc; no_begin = λ t l is. cc; no_end = refl; opens_none = refl; begins_none = refl };
  notes_none = λ writes. refl;
}

pub quiet_define : (s : ℕ) (name : List ℕ) → WritesNone (Define s name)
quiet_define s name = record {
  plain = record { no_open = λ t is. cc; no_close = λ t is. cc; no_begin = λ t l is. cc; no_end = refl; opens_none = refl; begins_none = refl };
  notes_none = λ writes. refl;
}

pub quiet_read : (s : ℕ) (cell : Cell) (source count word : ℕ) (value : Value) → WritesNone (Read s cell source count word value)
quiet_read s cell source count word value = record {
  plain = record { no_open = λ t is. cc; no_close = λ t is. cc; no_begin = λ t l is. cc; no_end = refl; opens_none = refl; begins_none = refl };
  notes_none = λ writes. refl;
}

pub quiet_own : (s : ℕ) (cell : Cell) (value : Value) → WritesNone (Own s cell value)
quiet_own s cell value = record {
  plain = record { no_open = λ t is. cc; no_close = λ t is. cc; no_begin = λ t l is. cc; no_end = refl; opens_none = refl; begins_none = refl };
  notes_none = λ writes. refl;
}

pub quiet_scan : (s table : ℕ) (keys : List Key) → WritesNone (Scan s table keys)
quiet_scan s table keys = record {
  plain = record { no_open = λ t is. cc; no_close = λ t is. cc; no_begin = λ t l is. cc; no_end = refl; opens_none = refl; begins_none = refl };
  notes_none = λ writes. refl;
}

pub quiet_show : (s number : ℕ) → WritesNone (Show s number)
quiet_show s number = record {
  plain = record { no_open = λ t is. cc; no_close = λ t is. cc; no_begin = λ t l is. cc; no_end = refl; opens_none = refl; begins_none = refl };
  notes_none = λ writes. refl;
}

stands_plain :
    (events : List Event) (e : Event) (s : ℕ) (stage : Stage) → IsPlain e → Stands stage s events → Stands stage s (events ++ e ∷ [])
stands_plain events e s NoSession plain stands = tt
stands_plain events e s InSession plain (open_is, none) = (
  (open_still events e s (plain.no_open s) (plain.no_close s)).1 open_is,
  λ (k, pending). elim (pending_back events e k s pending) [
    | inl before ↦ none (k, before.0)
    | inr new ↦ plain.no_begin s new.level new.is
  ],
)
stands_plain events e s Pending plain (open_is, (n, pending)) = (
  (open_still events e s (plain.no_open s) (plain.no_close s)).1 open_is,
  (n, pending_kept events e n s (λ _. plain.no_end) pending),
)

stands_open :
    (initial : List (Cell × Value)) (events : List Event) (s : ℕ) → IsFormed initial events → s ≡ opened events + 1 →
    Stands InSession s (events ++ Open s ∷ [])
stands_open initial events s formed number = (
  (
    Contains-push events (Open s),
    λ closed. elim (Contains-push_cases events (Open s) (Close s) closed) [ inl old ↦ never (closed_opened initial events formed s old) | inr new ↦ cc ],
  ),
  λ (k, pending). elim (pending_back events (Open s) k s pending) [
    | inl before ↦ never (pending_opened initial events formed k s before.0)
    | inr new ↦ let e = new.is in cc
  ],
)
  where
    never : Contains events (Open s) → ⊥
    never member = let h = opened_bounds initial events formed s member in absurd (omega arith)

stands_begin :
    (events : List Event) (s : ℕ) (level : Level) → Stands InSession s events → Stands Pending s (events ++ Begin s level ∷ [])
stands_begin events s level (open_is, none) = (
  (open_still events (Begin s level) s (λ same. cc) (λ same. cc)).1 open_is,
  (begun events + 1, pending_begin events s level),
)

stands_end :
    (events : List Event) (e : Event) (s : ℕ) → session_in e ≡ s → is_end e ≡ true → (e ≡ Open s → ⊥) → (e ≡ Close s → ⊥) →
    ((level : Level) → e ≡ Begin s level → ⊥) → Stands Pending s events → Stands InSession s (events ++ e ∷ [])
stands_end events e s same ends no_open no_close no_begin (open_is, pending_is) = (
  (open_still events e s no_open no_close).1 open_is,
  λ (k, pending). elim (pending_back events e k s pending) [
    | inl before ↦ false≢true (sym (before.1 same) ∙ ends)
    | inr new ↦ no_begin new.level new.is
  ],
)

-- a history without events
pub legal_none : (level : Level) (initial : List (Cell × Value)) → IsInitialState initial → IsLegalChronicle (record { level = level; initial = initial; events = []; tables = [] })
legal_none level initial is = record {
  initial = is;
  legal = record {
    formed = λ k e at. let none : None ≡ Some e = at in cc;
    offered = λ k e at. let none : None ≡ Some e = at in cc;
  };
  tables = record { named = refl; sound = All-nil IsSound };
}

pub at_stage : (history : Chronicle) (n : ℕ) (stage there : Stage) → stage ≡ there → IsServed history n stage → IsServed history n there
at_stage history n stage there is served = subst (λ (t : Stage). IsServed history n t) is served

-- the session and the stage are those, and the history has one event more
module _ (old new : Desk) (e : Event) (session : ℕ) (stage : Stage) (was : IsDesk old) (store : IsStore new.store) (goes : GoesTo old e session stage new) where
  grown : new.store.history.events ≡ old.store.history.events ++ e ∷ []
  grown = ap (λ (h : Chronicle). h.events) goes.history

  -- the book goes on so
  pub desk_goes : Stands stage session (old.store.history.events ++ e ∷ []) → IsDesk new
  desk_goes stands = record {
    store = store;
    served = record {
      legal = store.legal;
      stands = subst (λ (t : Stage). Stands t new.session new.store.history.events) (sym goes.stands)
          (subst (λ (n : ℕ). Stands stage n new.store.history.events) (sym goes.session)
          (subst (λ (es : List Event). Stands stage session es) (sym grown) stands));
    };
    from =
        let size : length new.store.history.events ≡ length old.store.history.events + 1 = ap length grown ∙ length_push old.store.history.events e in
        let same = goes.from in
        let before = was.from in
        omega arith;
  }

pub desk_plain :
    (old new : Desk) (e : Event) → IsPlain e → IsDesk old → IsStore new.store → GoesTo old e old.session old.stage new → IsDesk new
desk_plain old new e plain was store goes =
    desk_goes old new e old.session old.stage was store goes (stands_plain old.store.history.events e old.session old.stage plain was.served.stands)

-- the same, where the session's transaction is pending
pub desk_pending :
    (old new : Desk) (e : Event) → IsPlain e → old.stage ≡ Pending → IsDesk old → IsStore new.store → GoesTo old e old.session Pending new → IsDesk new
desk_pending old new e plain is was store goes =
    desk_goes old new e old.session Pending was store goes (stands_plain old.store.history.events e old.session Pending plain
    (at_stage old.store.history old.session old.stage Pending is was.served).stands)

pub desk_writes :
    (old new : Desk) (cell : Cell) (value : Value) → old.stage ≡ Pending → IsDesk old → IsStore new.store →
    GoesTo old (Write old.session cell value) old.session Pending new → IsDesk new
desk_writes old new cell value is was store goes =
    desk_pending old new (Write old.session cell value) (plain_write old.session cell value) is was store goes

pub desk_opens :
    (old new : Desk) (s : ℕ) → s ≡ old.store.sessions + 1 → IsDesk old → IsStore new.store → GoesTo old (Open s) s InSession new → IsDesk new
desk_opens old new s number was store goes =
    let count = was.store.count in
    desk_goes old new (Open s) s InSession was store goes
    (stands_open old.store.history.initial old.store.history.events s was.store.legal.legal.formed (omega arith))

pub desk_begins :
    (old new : Desk) (level : Level) → old.stage ≡ InSession → IsDesk old → IsStore new.store →
    GoesTo old (Begin old.session level) old.session Pending new → IsDesk new
desk_begins old new level is was store goes =
    desk_goes old new (Begin old.session level) old.session Pending was store goes
    (stands_begin old.store.history.events old.session level (at_stage old.store.history old.session old.stage InSession is was.served).stands)

pub desk_ends :
    (old new : Desk) (e : Event) → session_in e ≡ old.session → is_end e ≡ true → ((s : ℕ) → e ≡ Open s → ⊥) → ((s : ℕ) → e ≡ Close s → ⊥) →
    ((s : ℕ) (level : Level) → e ≡ Begin s level → ⊥) → old.stage ≡ Pending → IsDesk old → IsStore new.store → GoesTo old e old.session InSession new →
    IsDesk new
desk_ends old new e same ends no_open no_close no_begin is was store goes =
    desk_goes old new e old.session InSession was store goes
    (stands_end old.store.history.events e old.session same ends (no_open old.session) (no_close old.session) (no_begin old.session)
    (at_stage old.store.history old.session old.stage Pending is was.served).stands)

pub desk_closes :
    (old new : Desk) → IsDesk old → IsStore new.store → GoesTo old (Close old.session) old.session NoSession new → IsDesk new
desk_closes old new was store goes = desk_goes old new (Close old.session) old.session NoSession was store goes tt

pub desk_stays : (old new : Desk) → IsDesk old → IsStore new.store → Stays old new → IsDesk new
desk_stays old new was store stays = record {
  store = store;
  served = subst (λ (t : Stage). IsServed new.store.history new.session t) (sym stays.stands)
      (subst (λ (n : ℕ). IsServed new.store.history n old.stage) (sym stays.session)
      (subst (λ (h : Chronicle). IsServed h old.session old.stage) (sym stays.history) was.served));
  from =
      let size : length new.store.history.events ≡ length old.store.history.events = ap (λ (h : Chronicle). length h.events) stays.history in
      let same = stays.from in
      let before = was.from in
      omega arith;
}

-- with the definition of a table as well
pub desk_defines :
    (old new : Desk) (table : Table) → IsDesk old → IsStore new.store → DefinesTo old table new → IsDesk new
desk_defines old new table was store defines =
    let grown : new.store.history.events ≡ old.store.history.events ++ Define old.session table.name ∷ [] = ap (λ (h : Chronicle). h.events) defines.history in
    record {
      store = store;
      served = record {
        legal = store.legal;
        stands = subst (λ (t : Stage). Stands t new.session new.store.history.events) (sym defines.stands)
            (subst (λ (n : ℕ). Stands old.stage n new.store.history.events) (sym defines.session)
            (subst (λ (es : List Event). Stands old.stage old.session es) (sym grown)
            (stands_plain old.store.history.events (Define old.session table.name) old.session old.stage (quiet_define old.session table.name).plain was.served.stands)));
      };
      from =
          let size : length new.store.history.events ≡ length old.store.history.events + 1 = ap length grown ∙ length_push old.store.history.events (Define old.session table.name) in
          let same = defines.from in
          let before = was.from in
          omega arith;
    }

-- a write of the pending transaction was added, or nothing changed
pub desk_either :
    {E : Type 0} (old new : Desk) (cell : Cell) (value : Value) (r : Result (Unit {0}) E) → old.stage ≡ Pending →
    OnOk r (GoesTo old (Write old.session cell value) old.session Pending new) → OnErr r (Stays old new) → IsStore new.store → IsDesk old → IsDesk new
desk_either old new cell value (Ok u) is ok err store was = desk_writes old new cell value is was store ok
desk_either old new cell value (Err fault) is ok err store was = desk_stays old new was store err

-- a read of the pending transaction follows
pub read_follows :
    (history : Chronicle) (n : ℕ) (stage : Stage) (cell : Cell) (source count word : ℕ) (value : Value) → IsServed history n stage → stage ≡ Pending →
    (WroteItself history.events n cell → ⊥) → table_of cell < length history.tables → WritesValue history.initial history.events source cell value →
    Follows history.initial history.events (Read n cell source count word value)
read_follows history n stage cell source count word value served is unwritten inside written =
    let defined_all = tables_defined history (formed_of history served.legal) in
    let stands = (at_stage history n stage Pending is served).stands in
    (stands.1, unwritten, omega arith, written)

-- a session that is given stands as was found
pub seat_stands :
    (events : List Event) (given : Option ℕ) (number : ℕ) (stage : Stage) → IfSome given (λ s. IsOpen events s) →
    ((s : ℕ) → given ≡ Some s → number ≡ s) → IfNone given (stage ≡ NoSession) → ((s : ℕ) → given ≡ Some s → (HasPending events s → ⊥) → stage ≡ InSession) →
    ((s : ℕ) → given ≡ Some s → HasPending events s → stage ≡ Pending) →
    ((s : ℕ) → given ≡ Some s → HasPending events s ⊎ (HasPending events s → ⊥)) → Stands stage number events
seat_stands events None number stage open_is of none idle is_pending either = subst (λ (t : Stage). Stands t number events) (sym none) tt
seat_stands events (Some s) number stage open_is of none idle is_pending either =
    elim (either s refl) [
      | inl there ↦
          subst (λ (t : Stage). Stands t number events) (sym (is_pending s refl there))
          (subst (λ (n : ℕ). Stands Pending n events) (sym (of s refl)) (open_is, there))
      | inr none_there ↦
          subst (λ (t : Stage). Stands t number events) (sym (idle s refl none_there))
          (subst (λ (n : ℕ). Stands InSession n events) (sym (of s refl)) (open_is, none_there))
    ]

-- a session that stands is open
pub stands_open_is : (events : List Event) (session : ℕ) (stage : Stage) → HasSession (state_of stage session events) → Stands stage session events → IsOpen events (session_of (state_of stage session events))
stands_open_is events session NoSession has stands = absurd has
stands_open_is events session InSession has stands = stands.0
stands_open_is events session Pending has stands = stands.0

pub stands_in : (events : List Event) (session : ℕ) (stage : Stage) → Stands stage session events → StandsIn (state_of stage session events) events
stands_in events session NoSession stands = tt
stands_in events session InSession stands = stands
stands_in events session Pending stands = (stands.0, stands.1, refl)
