-- How a session stands in a history once others, or a call of its own, have added to it.
use Rattle.std.proofs.Common.{◌≡◌, ◌≢◌, ℕ, ◌+◌, ◌<◌, List, [], ◌∷◌, ◌++◌, refl, sym, ◌∙◌, ap, subst, arith, Option, Some, None, inl, inr}
use Rattle.std.specs.Prelude.{◌⊎◌, All, IfSome, Contains}
use Rattle.std.proofs.lemmas.List.{append-nil}
use Rattle.std.proofs.lemmas.List.Elements.{All-nil, All-cons, All-tail, Contains-append_left, Contains-push}
use Rattle.history_core.specs.declared.event.Event.{Event}
use Rattle.history_core.specs.declared.event.Event.TheVariants.{Open}
use Rattle.history_core.specs.Events.{session_in, opened}
use Rattle.history_core.specs.Legal.{IsFormed, MayCome, Follows}
use Rattle.history_core.specs.Chronicle.{Chronicle, IsLegalChronicle, own_events}
use Rattle.history_book.specs.Book.{Past, SessionState, no_session, in_session, pending, HasSession, session_of, GoesOn}
use Rattle.history_core.proofs.Prefixes.{formed_back}
use Rattle.valid_writes.specs.Desk.{given_events}
use Rattle.valid_writes.specs.Owning.{OwnsAllThatComes}
use Rattle.valid_writes.specs.Seats.{StandsIn}
use Rattle.valid_writes.proofs.Writes.{own_push}
use Rattle.valid_writes.proofs.OtherSessions.{stands_others, each_opened, fresh}
use Rattle.block_machine.specs.Calls.{Call}
use Rattle.block_machine.specs.Calls as calls
use Rattle.block_machine.specs.Script.{Entry, did, refused, short, unsent, stop}
use Rattle.block_machine.specs.declared.call.Answer.{Answer}
use Rattle.block_machine.specs.declared.call.Answer.TheVariants as answers
use Rattle.session_core.specs.Told.{opened_after, opened_from}
use Rattle.session_core.specs.Record.{events_of}
use Rattle.session_core.specs.Plays.{MayAsk}
use Rattle.session_core.proofs.ValidRecords.{Declines-goes}
use Rattle.session_hall.specs.Accounts.{Comes, KeepsNumber}
use Rattle.session_hall.specs.Clients.{come_to}
use Rattle.session_hall.specs.Seats.{Lives}
use Rattle.session_hall.proofs.Others.{given_others, own_none}
use Rattle.session_hall.proofs.Later.{goes_same, goes_later}
use Rattle.session_hall.proofs.Coming.{Came, IsForeignTo, Numbers, came_comes, came_numbers, came_owns}

comes_goes : (past : Past) (old new : Chronicle) (es : List Event) → Comes old es new → All (λ (e : Event). session_in e ≢ session_of past.state) es →
    GoesOn (come_to past old) (come_to past new)
comes_goes past old new es comes foreign = record {
  level = comes.level;
  initial = comes.initial;
  others = es;
  seen = comes.seen;
  foreign = foreign;
  more = comes.more;
  tables = comes.tables;
  own = refl;
  state = refl;
}

opened_on : (number : Option ℕ) (old new : Chronicle) (es : List Event) → Comes old es new → IfSome number (λ s. Contains old.events (Open s)) →
    IfSome number (λ s. Contains new.events (Open s))
opened_on None old new es comes has = tt
opened_on (Some s) old new es comes has =
    subst (λ (x : List Event). Contains x (Open s)) (sym comes.seen) (Contains-append_left old.events es (Open s) has)

-- none of the events is of the session, if one is open, given that none is of its number and none has no number
pub foreign_state : (state : SessionState) (number : Option ℕ) (es : List Event) → (HasSession state → number ≡ Some (session_of state)) →
    IfSome number (λ s. All (λ (e : Event). session_in e ≢ s) es) → All (λ (e : Event). session_in e ≢ 0) es →
    All (λ (e : Event). session_in e ≢ session_of state) es
foreign_state no_session number es is others some = some
foreign_state (in_session s) number es is others some =
    subst (λ (o : Option ℕ). IfSome o (λ n. All (λ (e : Event). session_in e ≢ n) es)) (is tt) others
foreign_state (pending s writes) number es is others some =
    subst (λ (o : Option ℕ). IfSome o (λ n. All (λ (e : Event). session_in e ≢ n) es)) (is tt) others

-- others added to the history
pub lives_others : (old new : Chronicle) (past : Past) (number : Option ℕ) (es : List Event) → Comes old es new →
    All (λ (e : Event). session_in e ≢ 0) es → IfSome number (λ s. All (λ (e : Event). session_in e ≢ s) es) → Lives old past number →
    Lives new past number
lives_others old new past number es comes some others lives =
    let foreign : All (λ (e : Event). session_in e ≢ session_of past.state) es = foreign_state past.state number es lives.number_is others some in
    record {
      goes_on = goes_later past (come_to past old) (come_to past new) lives.goes_on (comes_goes past old new es comes foreign);
      own = ap (λ (x : List Event). given_events number x) comes.seen ∙ given_others number old.events es others ∙ lives.own;
      state = subst (λ (x : List Event). StandsIn past.state x) (sym comes.seen) (stands_others past.state old.events es foreign lives.state);
      number_is = lives.number_is;
      was_opened = opened_on number old new es comes lives.was_opened;
    }

-- ---- a call of the session's own

-- what may come, as the last event of a legal history shows
last_comes : (old new : Chronicle) (e : Event) → Comes old (e ∷ []) new → IsLegalChronicle new →
    IsFormed new.initial old.events × MayCome new.initial old.events e
last_comes old new e comes legal =
    formed_back new.initial old.events e (subst (λ (x : List Event). IsFormed new.initial x) comes.seen legal.legal.formed)

opens_next : (old new : Chronicle) (e : Event) → Comes old (e ∷ []) new → IsLegalChronicle new → e ≡ Open (session_in e) →
    session_in e ≡ opened old.events + 1
opens_next old new e comes legal is = subst (λ (x : Event). Follows new.initial old.events x) is (last_comes old new e comes legal).1.follows

-- the own events before the event
own_before : (old new : Chronicle) (past : Past) (number : Option ℕ) (a : Answer) (e : Event) (q : Past) → Comes old (e ∷ []) new →
    IsLegalChronicle new → Lives old past number → Numbers number (come_to past old) a e q → own_events old.events (session_in e) ≡ past.own
own_before old new past number a e q comes legal lives numbers = go numbers.either
  where
    go : ((number ≡ None) × (e ≡ Open (session_in e))) ⊎ (number ≡ Some (session_in e)) → own_events old.events (session_in e) ≡ past.own
    go (inl (none, is)) =
        own_none (session_in e) old.events (fresh new.initial old.events (session_in e) (last_comes old new e comes legal).0 (opens_next old new e comes legal is))
        ∙ ap (λ (o : Option ℕ). given_events o old.events) (sym none) ∙ lives.own
    go (inr is) = ap (λ (o : Option ℕ). given_events o old.events) (sym is) ∙ lives.own

pub lives_called : (history : Chronicle) (past : Past) (number : Option ℕ) (c : Call) (x : Entry) (q : Past) → Lives history past number →
    MayAsk c (come_to past history) → (past.state ≡ no_session → number ≡ None) → Came (come_to past history) c x q →
    OwnsAllThatComes (come_to past history) q → IsLegalChronicle q.seen → StandsIn q.state q.seen.events →
    Lives q.seen q (opened_from number (x ∷ []))
lives_called history past number c (did a e) q lives may away came owns legal stands =
    let numbers : Numbers number (come_to past history) a e q =
    came_numbers number (come_to past history) c a e q may lives.number_is away came.0 came.1 in
    let comes : Comes history (e ∷ []) q.seen = came_comes (come_to past history) c (did a e) q came owns in
    record {
      goes_on = goes_same q;
      own = ap (λ (o : Option ℕ). given_events o q.seen.events) numbers.after
          ∙ ap (λ (x : List Event). own_events x (session_in e)) comes.seen
          ∙ own_push history.events (session_in e) e refl
          ∙ ap (λ (x : List Event). x ++ e ∷ []) (own_before history q.seen past number a e q comes legal lives numbers)
          ∙ sym (came_owns (come_to past history) c (did a e) q came);
      state = stands;
      number_is = λ has. numbers.after ∙ ap (λ (n : ℕ). Some n) (sym (numbers.has has));
      was_opened = subst (λ (o : Option ℕ). IfSome o (λ s. Contains q.seen.events (Open s))) (sym numbers.after)
          (each_opened q.seen.initial q.seen.events legal.legal.formed e
          (subst (λ (x : List Event). Contains x e) (sym comes.seen) (Contains-push history.events e)));
    }
lives_called history past number c (refused why) q lives may away came owns legal stands =
    let goes : GoesOn (come_to past history) q = Declines-goes (come_to past history) c why q came in
    let comes : Comes history [] q.seen = came_comes (come_to past history) c (refused why) q came owns in
    record {
      goes_on = goes_same q;
      own = ap (λ (x : List Event). given_events number x) (comes.seen ∙ append-nil history.events) ∙ lives.own ∙ sym goes.own;
      state = stands;
      number_is = λ has. lives.number_is (subst HasSession goes.state has) ∙ ap (λ (s : SessionState). Some (session_of s)) (sym goes.state);
      was_opened = opened_on number history q.seen [] comes lives.was_opened;
    }
lives_called history past number c (short final n) q lives may away came owns legal stands = absurd came
lives_called history past number c (unsent n) q lives may away came owns legal stands = absurd came
lives_called history past number c (stop cause) q lives may away came owns legal stands = absurd came

-- the number and the events of a call
keeps_did : (old new : Chronicle) (number : Option ℕ) (p : Past) (a : Answer) (e : Event) (q : Past) → Comes old (e ∷ []) new → IsLegalChronicle new →
    Numbers number p a e q → KeepsNumber number old (opened_after number a)
keeps_did old new (Some s) p a e q comes legal numbers =
    elim numbers.either [ inl both ↦ absurd (cc both.0) | inr is ↦ numbers.after ∙ sym is ]
keeps_did old new None p a e q comes legal numbers =
    elim numbers.either [
      | inl both ↦
          let next = opens_next old new e comes legal both.1 in
          subst (λ (o : Option ℕ). IfSome o (λ s. opened old.events < s)) (sym numbers.after) (omega (arith, next))
      | inr is ↦ absurd (cc is)
    ]

pub keeps_called : (history : Chronicle) (past : Past) (number : Option ℕ) (c : Call) (x : Entry) (q : Past) → Lives history past number →
    MayAsk c (come_to past history) → (past.state ≡ no_session → number ≡ None) → Came (come_to past history) c x q →
    OwnsAllThatComes (come_to past history) q → IsLegalChronicle q.seen → KeepsNumber number history (opened_from number (x ∷ []))
keeps_called history past number c (did a e) q lives may away came owns legal =
    keeps_did history q.seen number (come_to past history) a e q (came_comes (come_to past history) c (did a e) q came owns) legal
    (came_numbers number (come_to past history) c a e q may lives.number_is away came.0 came.1)
keeps_called history past (Some s) c (refused why) q lives may away came owns legal = refl
keeps_called history past None c (refused why) q lives may away came owns legal = tt
keeps_called history past number c (short final n) q lives may away came owns legal = absurd came
keeps_called history past number c (unsent n) q lives may away came owns legal = absurd came
keeps_called history past number c (stop cause) q lives may away came owns legal = absurd came

pub own_called : (history : Chronicle) (past : Past) (number : Option ℕ) (c : Call) (x : Entry) (q : Past) → Lives history past number →
    MayAsk c (come_to past history) → (past.state ≡ no_session → number ≡ None) → Came (come_to past history) c x q →
    All (λ (e : Event). opened_from number (x ∷ []) ≡ Some (session_in e)) (events_of (x ∷ []))
own_called history past number c (did a e) q lives may away came =
    All-cons (λ (y : Event). opened_after number a ≡ Some (session_in y)) e []
    (came_numbers number (come_to past history) c a e q may lives.number_is away came.0 came.1).after
    (All-nil (λ (y : Event). opened_after number a ≡ Some (session_in y)))
own_called history past number c (refused why) q lives may away came = All-nil (λ (y : Event). number ≡ Some (session_in y))
own_called history past number c (short final n) q lives may away came = absurd came
own_called history past number c (unsent n) q lives may away came = absurd came
own_called history past number c (stop cause) q lives may away came = absurd came

-- what others added before isn't of the session that is then opened
not_of : (s : ℕ) (xs ys zs : List Event) → zs ≡ xs ++ ys → All (λ (e : Event). session_in e ≢ s) zs → All (λ (e : Event). session_in e ≢ s) ys
not_of s [] ys zs is all = subst (λ (es : List Event). All (λ (e : Event). session_in e ≢ s) es) is all
not_of s (x ∷ xs) ys zs is all =
    not_of s xs ys (xs ++ ys) refl
    (All-tail (λ (e : Event). session_in e ≢ s) x (xs ++ ys) (subst (λ (es : List Event). All (λ (e : Event). session_in e ≢ s) es) is all))

pub opened_apart : (history : Chronicle) (past : Past) (number : Option ℕ) (c : Call) (x : Entry) (q : Past) (lives : Lives history past number) →
    MayAsk c (come_to past history) → (past.state ≡ no_session → number ≡ None) → Came (come_to past history) c x q →
    OwnsAllThatComes (come_to past history) q → IsLegalChronicle q.seen → IsForeignTo c x lives.goes_on.others
opened_apart history past number calls.Open (did (answers.Opened s) e) q lives may away came owns legal =
    let comes : Comes history (e ∷ []) q.seen = came_comes (come_to past history) calls.Open (did (answers.Opened s) e) q came owns in
    let same : session_in e ≡ s = ap session_in came.0.0 in
    let next : session_in e ≡ opened history.events + 1 = opens_next history q.seen e comes legal (came.0.0 ∙ ap Open (sym same)) in
    not_of s past.seen.events lives.goes_on.others history.events lives.goes_on.seen
    (fresh q.seen.initial history.events s (last_comes history q.seen e comes legal).0 (sym same ∙ next))
opened_apart history past number c (refused why) q lives may away came owns legal = tt
opened_apart history past number c (short final n) q lives may away came owns legal = tt
opened_apart history past number c (unsent n) q lives may away came owns legal = tt
opened_apart history past number c (stop cause) q lives may away came owns legal = tt
opened_apart history past number _ (did _ e) q lives may away came owns legal = tt
