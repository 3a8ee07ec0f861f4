-- A seat goes on by a call of its book.
use Rattle.std.proofs.Common.{◌≡◌, ℕ, ◌≤◌, List, [], ◌∷◌, ◌++◌, length, take, refl, sym, ◌∙◌, ap, subst, arith, append_assoc, Option, Some, None, inl, inr}
use Rattle.std.specs.Prelude.{◌⊎◌, All, Contains, IfSome, IfNone}
use Rattle.std.proofs.lemmas.List.{append-nil}
use Rattle.std.proofs.lemmas.List.Elements.{All-nil, All-cons, All-append, Contains-append_left}
use Rattle.cell_base.specs.declared.level.Level.{Level}
use Rattle.choice_stream.specs.Choices.{DrawsFirst}
use Rattle.history_core.specs.declared.event.Event.{Event}
use Rattle.history_core.specs.declared.fault.DefineAnswer.TheVariants as defines
use Rattle.history_core.specs.Events.{session_in}
use Rattle.history_core.specs.Transactions.{HasPending}
use Rattle.history_core.specs.Legal.{IsOpen}
use Rattle.history_core.specs.Chronicle.{Chronicle, IsLegalChronicle}
use Rattle.history_book.specs.Book.{Past, SessionState, no_session, in_session, pending, HasSession, session_of}
use Rattle.valid_writes.specs.Desk.{given_events, last_writes}
use Rattle.valid_writes.specs.Owning.{OwnsAllThatComes}
use Rattle.valid_writes.specs.Seats.{StandsIn}
use Rattle.valid_writes.specs.Beginnings.{no_past}
use Rattle.statement_course.specs.declared.demand.Demand.{Demand}
use Rattle.statement_course.specs.declared.demand.Demand.TheVariants as demands
use Rattle.statement_course.specs.Course.{first_demand}
use Rattle.cell_compile.specs.Plans.{rest_of}
use Rattle.block_machine.specs.Calls.{Call, call_for}
use Rattle.block_machine.specs.Calls as calls
use Rattle.block_machine.specs.Knowledge.{Knowledge}
use Rattle.block_machine.specs.Script.{Entry, did, refused, short, unsent, stop}
use Rattle.block_machine.specs.Stages as message_stages
use Rattle.block_machine.specs.Runners.{knowledge_of, stage_of, wanted}
use Rattle.block_machine.specs.declared.block.Owed.TheVariants as owed_kinds
use Rattle.block_machine.specs.declared.call.Answer.{Answer}
use Rattle.block_machine.specs.declared.call.Answer.TheVariants as answers
use Rattle.block_machine.specs.declared.end.End.{End}
use Rattle.block_machine.specs.declared.message_runner.MessageRunner.{MessageRunner}
use Rattle.block_machine.specs.declared.stage.MessageStage.{MessageStage}
use Rattle.block_machine.specs.declared.stage.MessageStage.TheVariants as message_stage
use Rattle.session_core.specs.declared.session.Session.{Session}
use Rattle.session_core.specs.declared.stage.SessionStage.{SessionStage}
use Rattle.session_core.specs.declared.stage.SessionStage.TheVariants as stages
use Rattle.session_core.specs.Told.{opened_in, opened_from}
use Rattle.session_core.specs.Record.{Happens, StateAfter, events_of}
use Rattle.session_core.specs.Plays.{MayAsk, owed_of}
use Rattle.session_core.specs.Wants as wishes
use Rattle.session_core.specs.Stands.{IsLast, Lacks, outer, owed_at, served_of, wants}
use Rattle.session_core.specs.Sessions.{Stands}
use Rattle.session_core.specs.Serve.{Account}
use Rattle.session_core.specs.Running.{Sits, MakesCall}
use Rattle.session_core.proofs.Flags.{opened-append}
use Rattle.session_core.proofs.Following.{book_message}
use Rattle.session_core.proofs.Playing.{may_ask}
use Rattle.session_core.proofs.Serving.{last_more, sits_on}
use Rattle.session_core.proofs.ValidRecords.{Declines-goes, IsValidRecord-append}
use Rattle.session_hall.specs.declared.client.Client.{Client}
use Rattle.session_hall.specs.declared.seat.Seat.{Seat}
use Rattle.session_hall.specs.Accounts.{Comes, Grew, KeepsNumber}
use Rattle.session_hall.specs.Clients.{come_to}
use Rattle.session_hall.specs.Seats.{Lives, IsFrom, Attends, Grows}
use Rattle.session_hall.proofs.Entries.{events-append, IsAlone, alone_short, short_from}
use Rattle.session_hall.proofs.Coming.{Came, IsForeignTo, asks_open, came_comes, came_of, one_later}
use Rattle.session_hall.proofs.Living.{lives_called, keeps_called, own_called, opened_apart}
use Rattle.session_hall.proofs.Turning.{all_from_more, laid_same}

-- ---- the seat that was taken

state_is : (state : SessionState) (number : Option ℕ) (t : SessionState) (events : List Event) → StandsIn state events →
    (HasSession state → number ≡ Some (session_of state)) → (state ≡ no_session → number ≡ None) → IfNone number (t ≡ no_session) →
    ((s : ℕ) → number ≡ Some s → (HasPending events s → ⊥) → t ≡ in_session s) →
    ((s : ℕ) → number ≡ Some s → HasPending events s → t ≡ pending s (last_writes events s)) → t ≡ state
state_is no_session number t events stands is away none idle busy = subst (λ (o : Option ℕ). IfNone o (t ≡ no_session)) (away refl) none
state_is (in_session s) number t events stands is away none idle busy = idle s (is tt) stands.1
state_is (pending s writes) number t events stands is away none idle busy =
    busy s (is tt) stands.1 ∙ ap (λ (ws : _). pending s ws) (sym stands.2)

-- what a seat in the store at this number has for its past
pub record IsSeatAt (history : Chronicle) (number : Option ℕ) (p : Past) : Type 0 where
  pub seen : p.seen ≡ history
  pub own : p.own ≡ given_events number history.events
  pub none : IfNone number (p.state ≡ no_session)
  pub idle : (s : ℕ) → number ≡ Some s → (HasPending history.events s → ⊥) → p.state ≡ in_session s
  pub busy : (s : ℕ) → number ≡ Some s → HasPending history.events s → p.state ≡ pending s (last_writes history.events s)

seat_past : (history : Chronicle) (past : Past) (number : Option ℕ) (p : Past) → Lives history past number → (past.state ≡ no_session → number ≡ None) →
    IsSeatAt history number p → p ≡ come_to past history
seat_past history past number p lives away seat =
    ap (λ (x : Chronicle). record { seen = x; own = p.own; state = p.state }) seat.seen
    ∙ ap (λ (x : List Event). record { seen = history; own = x; state = p.state }) (seat.own ∙ lives.own)
    ∙ ap (λ (x : SessionState). record { seen = history; own = past.own; state = x })
    (state_is past.state number p.state history.events lives.state lives.number_is away seat.none seat.idle seat.busy)

-- ---- what a session that is about to end asks

last_owes : (stage : SessionStage) (r : MessageRunner) (c : Call) → IsLast stage → wants stage r ≡ wishes.Book c → owed_at stage r ≡ owed_kinds.Nothing → ⊥
last_owes (stages.Leaving finish) r c last w owed = cc owed
last_owes (stages.Closing finish) r c last w owed = cc owed
last_owes (stages.Parting fatal) r c last w owed = cc w
last_owes (stages.Ended finish) r c last w owed = cc w
last_owes _ r c last w owed = absurd last

-- a session that wants a call and has left its book was never opened
pub never_opened : (s : Session) (past : Past) (c : Call) (number : Option ℕ) → Sits s past → wants s.stage s.runner ≡ wishes.Book c →
    (past.state ≡ no_session → (number ≡ None) ⊎ IsLast s.stage) → past.state ≡ no_session → number ≡ None
never_opened s past c number sits w away gone =
    elim (away gone) [
      | inl never ↦ never
      | inr last ↦ absurd (last_owes s.stage s.runner c last w (sym sits.owed ∙ ap owed_of gone))
    ]

cells_close : (d : Demand) → calls.Book (call_for d) ≡ calls.Book calls.Close → ⊥
cells_close (demands.Scan table) w = cc w
cells_close (demands.Touch cell) w = cc w
cells_close (demands.Write cell value) w = cc w
cells_close (demands.Reply outcome) w = cc w

message_close : (stage : MessageStage) (known : Knowledge) → message_stages.wants stage known ≡ calls.Book calls.Close → ⊥
message_close (message_stage.Running run p) known w = cells_close (first_demand (rest_of run.plan)) w
message_close _ known w = cc w

-- a Close is asked by a session that is about to end
close_last : (stage : SessionStage) (r : MessageRunner) → wants stage r ≡ wishes.Book calls.Close → IsLast stage
close_last (stages.Closing finish) r w = tt
close_last (stages.Leaving finish) r w = tt
close_last (stages.Parting fatal) r w = tt
close_last (stages.Ended finish) r w = tt
close_last stages.Running r w = absurd (message_close (stage_of r) (knowledge_of r) (book_message (wanted r) calls.Close w))
close_last _ r w = absurd (cc w)

-- only a Close leaves no session
stays_open : (p : Past) (t : SessionState) → t ≡ p.state → HasSession p.state → t ≡ no_session → ⊥
stays_open p t same has gone = subst HasSession (sym same ∙ gone) has

leaves_by : (p : Past) (c : Call) (a : Answer) (e : Event) (q : Past) → MayAsk c p → Happens p c a e q → StateAfter c a p.state q.state →
    q.state ≡ no_session → c ≡ calls.Close
leaves_by p calls.Open (answers.Opened s) e q may h k gone = absurd (cc (sym k ∙ gone))
leaves_by p calls.Close answers.Closed e q may h k gone = refl
leaves_by p (calls.Look known) (answers.Looked tables) e q may h k gone =
    absurd (stays_open p q.state k (asks_open (calls.Look known) p may tt) gone)
leaves_by p (calls.Define t) (answers.Defined (defines.Defined n)) e q may h k gone =
    absurd (stays_open p q.state k (asks_open (calls.Define t) p may tt) gone)
leaves_by p (calls.Define t) (answers.Defined (defines.Taken n)) e q may h k gone =
    absurd (stays_open p q.state k (asks_open (calls.Define t) p may tt) gone)
leaves_by p (calls.Begin level) (answers.Begun n) e q may h k gone = absurd (cc (sym k ∙ gone))
leaves_by p (calls.Scan table) (answers.Listed keys) e q may h k gone =
    absurd (stays_open p q.state k (asks_open (calls.Scan table) p may tt) gone)
leaves_by p (calls.Touch cell) (answers.Found value) e q may h k gone =
    absurd (stays_open p q.state k (asks_open (calls.Touch cell) p may tt) gone)
leaves_by p (calls.Write cell value) answers.Written e q may h k gone = absurd (cc (sym k ∙ gone))
leaves_by p calls.Commit answers.Committed e q may h k gone = absurd (cc (sym k ∙ gone))
leaves_by p calls.Rollback answers.RolledBack e q may h k gone = absurd (cc (sym k ∙ gone))
leaves_by p calls.Show (answers.Shown n) e q may h k gone = absurd (stays_open p q.state k (asks_open calls.Show p may tt) gone)
leaves_by p _ _ e q may h k gone = absurd h

away_after : (s r : Session) (p : Past) (c : Call) (x : Entry) (q : Past) (number : Option ℕ) → wants s.stage s.runner ≡ wishes.Book c → MayAsk c p →
    Came p c x q → (p.state ≡ no_session → number ≡ None) → (IsLast s.stage → IsLast r.stage) → q.state ≡ no_session →
    (opened_from number (x ∷ []) ≡ None) ⊎ IsLast r.stage
away_after s r p c (did a e) q number w may came never last gone =
    let close : c ≡ calls.Close = leaves_by p c a e q may came.0 came.1 gone in
    inr (last (close_last s.stage s.runner (w ∙ ap wishes.Book close)))
away_after s r p c (refused why) q number w may came never last gone = inl (never (sym (Declines-goes p c why q came).state ∙ gone))
away_after s r p c (short final n) q number w may came never last gone = absurd came
away_after s r p c (unsent n) q number w may came never last gone = absurd came
away_after s r p c (stop cause) q number w may came never last gone = absurd came

-- ---- the account after the call

one_event : (x : Entry) → length (events_of (x ∷ [])) ≤ 1
one_event (did a e) = omega arith
one_event (refused why) = omega arith
one_event (short final n) = omega arith
one_event (unsent n) = omega arith
one_event (stop cause) = omega arith

call_from : (stream taken : List ℕ) (laid : Option End) (p : Past) (c : Call) (x : Entry) (q : Past) → Came p c x q → IsFrom stream taken laid x
call_from stream taken laid p c (did a e) q came = tt
call_from stream taken laid p c (refused why) q came = tt
call_from stream taken laid p c (short final n) q came = absurd came
call_from stream taken laid p c (unsent n) q came = absurd came
call_from stream taken laid p c (stop cause) q came = absurd came

-- the seat makes the call that its session wants
pub asked_grows : (s t : Seat) (history now : Chronicle) (number : Option ℕ) (p q : Past) →
    ((taken : List ℕ) (es : List Entry) (asked : List Call) (sent : List ℕ) → Stands s.session taken es asked sent → number ≡ opened_in es) →
    IsSeatAt history number p → MakesCall DrawsFirst s.session p s.words t.session q t.words → Sits t.session q → OwnsAllThatComes p q →
    IsLegalChronicle q.seen → StandsIn q.state q.seen.events → served_of t.session.runner ≡ served_of s.session.runner →
    outer t.session.stage ≡ outer s.session.stage → ((lost : List ℕ) → Lacks s.session.stage lost → Lacks t.session.stage lost) →
    (IsLast s.session.stage → IsLast t.session.stage) → now ≡ q.seen → t.stream.items ≡ s.stream.items → t.at ≡ s.at → t.sent.items ≡ s.sent.items →
    Grows history s 1 now t
asked_grows s t history now number p q number_is seat makes sits owns legal stands served outer_is lacks last now_is stream_is at_is sent_is level client a attends =
    let r : Session = t.session in
    let w : List ℕ = t.words in
    let f = attends.follows in
    let past : Past = f.past in
    let here : Past = come_to past history in
    let mine : number ≡ opened_in a.entries = number_is a.taken a.entries a.calls a.sent f.stands in
    let never : past.state ≡ no_session → opened_in a.entries ≡ None =
    never_opened s.session past makes.call (opened_in a.entries) f.sits makes.wanted_is f.away in
    let is : p ≡ here = seat_past history past (opened_in a.entries) p f.lives never (subst (λ (o : Option ℕ). IsSeatAt history o p) mine seat) in
    let made : MakesCall DrawsFirst s.session here s.words r q w = subst (λ (x : Past). MakesCall DrawsFirst s.session x s.words r q w) is makes in
    let own : OwnsAllThatComes here q = subst (λ (x : Past). OwnsAllThatComes x q) is owns in
    let c : Call = made.call in
    let x : Entry = made.entry in
    let may : MayAsk c here = may_ask s.session here c (sits_on s.session past here f.sits f.lives.goes_on) made.wanted_is in
    let came : Came here c x q = came_of DrawsFirst here s.words c x q w made.valid in
    let (added, is_short, st) = made.grown a.taken a.entries a.calls a.sent f.stands in
    let alone : IsAlone added = alone_short a.sent added is_short in
    let b : Account = record a { calls = a.calls ++ c ∷ []; entries = (a.entries ++ x ∷ []) ++ added } in
    let more : b.entries ≡ a.entries ++ x ∷ added = append_assoc a.entries (x ∷ []) added in
    let after : Option ℕ = opened_from (opened_in a.entries) (x ∷ []) in
    let number_b : opened_in b.entries ≡ after =
    opened-append None (a.entries ++ x ∷ []) added ∙ alone.same_number (opened_in (a.entries ++ x ∷ [])) ∙ opened-append None a.entries (x ∷ []) in
    let events_b : events_of (x ∷ added) ≡ events_of (x ∷ []) =
    events-append (x ∷ []) added ∙ ap (λ (es : List Event). events_of (x ∷ []) ++ es) alone.no_events ∙ append-nil (events_of (x ∷ [])) in
    let foreign : IsForeignTo c x f.lives.goes_on.others =
    opened_apart history past (opened_in a.entries) c x q f.lives may never came own legal in (
      b,
      subst (λ (n : Chronicle). Grew a history 1 b n) (sym now_is) (record {
        heard = [];
        asked = c ∷ [];
        added = x ∷ added;
        said = [];
        taken = sym (append-nil a.taken);
        calls = refl;
        count = refl;
        entries = more;
        sent = sym (append-nil a.sent);
        comes = subst (λ (es : List Event). Comes history es q.seen) (sym events_b) (came_comes here c x q came own);
        few = omega (arith, ap length events_b, one_event x);
        own = subst (λ (es : List Event). All (λ (e : Event). opened_in b.entries ≡ Some (session_in e)) es) (sym events_b)
            (subst (λ (o : Option ℕ). All (λ (e : Event). o ≡ Some (session_in e)) (events_of (x ∷ []))) (sym number_b)
            (own_called history past (opened_in a.entries) c x q f.lives may never came));
        number = subst (λ (o : Option ℕ). KeepsNumber (opened_in a.entries) history o) (sym number_b)
            (keeps_called history past (opened_in a.entries) c x q f.lives may never came own legal);
      }),
      subst (λ (n : Chronicle). Attends level n client b t) (sym now_is) (record {
        follows = record {
          stands = st;
          served_level = served ∙ f.served_level;
          past = q;
          valid = alone.stays_valid (no_past level) client.words.items b.calls (a.entries ++ x ∷ []) q w
              (IsValidRecord-append DrawsFirst (no_past level) client.words.items a.calls a.entries past s.words (c ∷ []) (x ∷ []) q w f.valid
              (one_later DrawsFirst past here s.words c x q w f.lives.goes_on foreign made.valid));
          lives = subst (λ (o : Option ℕ). Lives q.seen q o) (sym number_b)
              (lives_called history past (opened_in a.entries) c x q f.lives may never came own legal stands);
          sits = sits;
          away = λ gone. elim (away_after s.session r here c x q (opened_in a.entries) made.wanted_is may came never last gone) [
            | inl none ↦ inl (number_b ∙ none)
            | inr over ↦ inr over
          ];
        };
        carries = record {
          stream_is = stream_is ∙ attends.carries.stream_is;
          taken = attends.carries.taken ∙ ap (λ (k : ℕ). take k client.stream.items) (sym at_is);
          sent = attends.carries.sent ∙ ap (λ (v : List ℕ). v ++ a.lost) (sym sent_is);
          lacks = lacks a.lost attends.carries.lacks;
          last = last_more a b (x ∷ added) more refl refl attends.carries.last;
          laid = laid_same client.stream.items a.taken (outer s.session.stage) (outer r.stage) outer_is attends.carries.laid;
          causes = All-append (IsFrom client.stream.items a.taken (outer r.stage)) (a.entries ++ x ∷ []) added
              (All-append (IsFrom client.stream.items a.taken (outer r.stage)) a.entries (x ∷ [])
              (all_from_more client.stream.items a.taken a.taken (outer s.session.stage) (outer r.stage) a.entries (λ whole. whole)
              (λ fault. outer_is ∙ fault) attends.carries.causes)
              (All-cons (IsFrom client.stream.items a.taken (outer r.stage)) x []
              (call_from client.stream.items a.taken (outer r.stage) here c x q came) (All-nil (IsFrom client.stream.items a.taken (outer r.stage)))))
              (short_from client.stream.items a.taken a.sent (outer r.stage) added is_short);
          unsent_is = λ fault.
              let (n, has) = attends.carries.unsent_is (sym outer_is ∙ fault) in
              (n, subst (λ (es : List Entry). Contains es (unsent n)) (sym more) (Contains-append_left a.entries (x ∷ added) (unsent n) has));
        };
      }),
    )

-- the number of a session that wants a call is that of a session which is open
pub seat_open : (s : Seat) (history : Chronicle) (number : Option ℕ) (c : Call) (level : Level) (client : Client) (a : Account) →
    Attends level history client a s → number ≡ opened_in a.entries → wants s.session.stage s.session.runner ≡ wishes.Book c →
    IfSome number (λ n. IsOpen history.events n)
seat_open s history number c level client a attends is w =
    let f = attends.follows in
    subst (λ (o : Option ℕ). IfSome o (λ n. IsOpen history.events n)) (sym is)
    (go f.past.state (opened_in a.entries) f.lives.state f.lives.number_is
    (never_opened s.session f.past c (opened_in a.entries) f.sits w f.away))
  where
    go : (state : SessionState) (o : Option ℕ) → StandsIn state history.events → (HasSession state → o ≡ Some (session_of state)) →
        (state ≡ no_session → o ≡ None) → IfSome o (λ n. IsOpen history.events n)
    go no_session o stands mine never = subst (λ (x : Option ℕ). IfSome x (λ n. IsOpen history.events n)) (sym (never refl)) tt
    go (in_session n) o stands mine never = subst (λ (x : Option ℕ). IfSome x (λ k. IsOpen history.events k)) (sym (mine tt)) stands.0
    go (pending n writes) o stands mine never = subst (λ (x : Option ℕ). IfSome x (λ k. IsOpen history.events k)) (sym (mine tt)) stands.0

-- the session sits by its seat
pub asked_sits : (s : Seat) (history : Chronicle) (number : Option ℕ) (p : Past) (c : Call) (level : Level) (client : Client) (a : Account) →
    Attends level history client a s → number ≡ opened_in a.entries → wants s.session.stage s.session.runner ≡ wishes.Book c →
    IsSeatAt history number p → Sits s.session p
asked_sits s history number p c level client a attends mine w seat =
    let f = attends.follows in
    let is : p ≡ come_to f.past history =
    seat_past history f.past (opened_in a.entries) p f.lives (never_opened s.session f.past c (opened_in a.entries) f.sits w f.away)
    (subst (λ (o : Option ℕ). IsSeatAt history o p) mine seat) in
    subst (λ (x : Past). Sits s.session x) (sym is) (sits_on s.session f.past (come_to f.past history) f.sits f.lives.goes_on)
