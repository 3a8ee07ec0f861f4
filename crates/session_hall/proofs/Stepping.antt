-- A hall after a client's step.
use Rattle.std.proofs.Common.{◌≡◌, ◌≢◌, ◌==◌, ℕ, ◌<◌, zero, suc, Bool, true, false, List, [], ◌∷◌, ◌++◌, length, get_or, refl, sym, ◌∙◌, ap, subst, arith, Option, Some, None, inl, inr, ◌⊎◌}
use Rattle.std.specs.Prelude.{All, Contains, IfSome, OnErr, OnOk, Result, Ok, Err, slice_get, if◌then◌else◌}
use Rattle.std.specs.Option.{is_some}
use Rattle.std.proofs.Math.ListN.{set}
use Rattle.std.proofs.lemmas.Bool.{eqb-true, eq-eqb, ne_eqb}
use Rattle.std.proofs.lemmas.List.{append-nil, length-set}
use Rattle.std.proofs.lemmas.List.Elements.{All-contains, All-nil, All-tail, Contains-append_cases, Contains-append_right, Contains-get_or}
use Rattle.std.proofs.lemmas.Option.{slice_get_read, slice_get_within}
use Rattle.txn_buffer.proofs.Lists.{slice_get-set_same, slice_get-set_cases}
use Rattle.cell_base.specs.declared.memory.Memory.{Memory}
use Rattle.cell_base.specs.declared.level.Level.{Level}
use Rattle.history_core.specs.declared.event.Event.{Event}
use Rattle.history_core.specs.declared.event.Event.TheVariants.{Open}
use Rattle.history_core.specs.Events.{session_in, opened}
use Rattle.history_core.specs.Chronicle.{Chronicle}
use Rattle.history_core.proofs.Numbers.{opened_bounds}
use Rattle.block_machine.specs.Script.{Entry, did, refused, short, unsent, stop}
use Rattle.block_machine.specs.declared.end.End.{End}
use Rattle.block_machine.specs.declared.end.End.TheVariants as ends
use Rattle.session_core.specs.Stands.{outer}
use Rattle.session_core.specs.Told.{opened_in}
use Rattle.session_core.specs.Record.{events_of}
use Rattle.session_core.specs.Serve.{Account}
use Rattle.session_core.specs.Sessions.{wanted}
use Rattle.valid_writes.proofs.OtherSessions.{each_opened}
use Rattle.session_hall.specs.declared.client.Client.{Client}
use Rattle.session_hall.specs.declared.client.Stepped.{Stepped as Outcome}
use Rattle.session_hall.specs.declared.client.Stepped.TheVariants.{Called, Ended}
use Rattle.session_hall.specs.declared.hall.Hall.{Hall}
use Rattle.session_hall.specs.declared.seat.Seat.{Seat}
use Rattle.session_hall.specs.Accounts.{Comes, KeepsNumber, Grew}
use Rattle.session_hall.specs.Clients.{HasEnd}
use Rattle.session_hall.specs.Seats.{Attends, Goes, IsResting, IsCount, IsFrom, LeftUnsent, ShowsBy, ShowsEnd, TellsAll}
use Rattle.session_hall.specs.Halls.{with_account, HasEnded, IsAnswer, IsSeated, IsSent, IsStep, StandsFor}
use Rattle.session_hall.proofs.Opening.{some_item}
use Rattle.session_hall.proofs.Growing.{comes_none, keeps_same, keeps_some}
use Rattle.session_hall.proofs.Living.{lives_others}
use Rattle.session_hall.proofs.Serving.{serves_of, serves_on}

pub item_at : {X : Type 0} (xs : List X) (k : ℕ) → k < length xs → (x : X) × (slice_get xs k ≡ Some x)
item_at [] k within = absurd (omega (arith, within))
item_at (x ∷ xs) zero within = (x, refl)
item_at (x ∷ xs) (suc k) within = item_at xs k (omega (arith, within))

pub with_same : (accounts : ℕ → Account) (client : ℕ) (a : Account) (k : ℕ) → k ≡ client → with_account accounts client a k ≡ a
with_same accounts client a k is = ap (λ (t : Bool). if t then a else accounts k) (eq-eqb k client is)

pub with_other : (accounts : ℕ → Account) (client : ℕ) (a : Account) (k : ℕ) → k ≢ client → with_account accounts client a k ≡ accounts k
with_other accounts client a k apart = ap (λ (t : Bool). if t then a else accounts k) (ne_eqb k client apart)

either : (j k : ℕ) → (j ≡ k) ⊎ (j ≢ k)
either j k = go (j == k) refl
  where
    go : (t : Bool) → (j == k) ≡ t → (j ≡ k) ⊎ (j ≢ k)
    go true is = inl (eqb-true j k is)
    go false is = inr (λ same. absurd (cc (sym is ∙ eq-eqb j k same)))

-- the client whose number it is, and its seat
seat_at : (level : Level) (history : Chronicle) (clients : List Client) (accounts : ℕ → Account) (hall : Hall) → StandsFor level history clients accounts hall →
    (k : ℕ) → k < length clients → (client : Client) × (seat : Seat) × IsSeated level history client (accounts k) seat
seat_at level history clients accounts hall stands k within =
    let (client, client_is) = item_at clients k within in
    let (seat, seat_is) = item_at hall.seats.items k (omega (arith, within, stands.count)) in
    (client, seat, stands.each k client seat client_is seat_is)

-- no other client has the session of one that went on
not_shared : (level : Level) (history : Chronicle) (clients : List Client) (accounts : ℕ → Account) (hall : Hall) (client many : ℕ) (after : Account)
    (now : Chronicle) → StandsFor level history clients accounts hall → client < length clients → Grew (accounts client) history many after now →
    (k s : ℕ) → k ≢ client → k < length clients → opened_in (accounts k).entries ≡ Some s → opened_in after.entries ≡ Some s → ⊥
not_shared level history clients accounts hall client many after now stands within grew k s apart inside there here =
    shared_by (opened_in (accounts client).entries) refl
  where
    shared_by : (o : Option ℕ) → opened_in (accounts client).entries ≡ o → ⊥
    shared_by (Some t) is =
        let same : opened_in after.entries ≡ Some t = keeps_some (opened_in (accounts client).entries) (opened_in after.entries) history t is grew.number in
        apart (stands.apart k client s inside within there (is ∙ sym same ∙ here))
    shared_by None is =
        let above : opened history.events < s =
        subst (λ (o : Option ℕ). IfSome o (λ n. opened history.events < n)) here
        (subst (λ (o : Option ℕ). KeepsNumber o history (opened_in after.entries)) is grew.number) in
        let was = (seat_at level history clients accounts hall stands k inside).2.attends.follows.lives.was_opened in
        let bounds = opened_bounds history.initial history.events stands.legal.legal.formed s
        (subst (λ (o : Option ℕ). IfSome o (λ n. Contains history.events (Open n))) there was) in
        absurd (omega (arith, above, bounds.1))

-- an event that came isn't of a session that another has
not_of_other : (number : Option ℕ) (after : Option ℕ) (es : List Event) → ((s : ℕ) → number ≡ Some s → after ≡ Some s → ⊥) →
    All (λ (e : Event). after ≡ Some (session_in e)) es → IfSome number (λ s. All (λ (e : Event). session_in e ≢ s) es)
not_of_other None after es apart own = tt
not_of_other (Some s) after es apart own = λ k d within same. apart s refl (own k d within ∙ ap (λ (n : ℕ). Some n) same)

-- each event that came has a session
has_session : (history now : Chronicle) (es : List Event) (k : ℕ) (d : Event) → Comes history es now → k < length es →
    (legal : (e : Event) → Contains now.events e → 0 < session_in e) → session_in (get_or es k d) ≢ 0
has_session history now es k d comes within legal = λ none.
    let some = legal (get_or es k d) (subst (λ (x : List Event). Contains x (get_or es k d)) (sym comes.seen)
    (Contains-append_right history.events es (get_or es k d) (Contains-get_or es k d within))) in
    absurd (omega (arith, some, none))

pub hall_moves : (level : Level) (history : Chronicle) (clients : List Client) (accounts : ℕ → Account) (old new : Hall) (client : ℕ) (s t : Seat)
    (many : ℕ) → StandsFor level history clients accounts old → client < length clients → slice_get old.seats.items client ≡ Some s →
    new.seats.items ≡ set old.seats.items client t → Goes history s many new.store t → ShowsEnd t.end (wanted t.session) → (t.end ≡ None → IsResting t) →
    TellsAll t.session →
    (after : Account) × (now : Chronicle) × Grew (accounts client) history many after now × StandsFor level now clients (with_account accounts client after) new
hall_moves level history clients accounts old new client s t many stands within seat_is seats goes shows resting tells =
    let (c, client_is) = item_at clients client within in
    let was : IsSeated level history c (accounts client) s = stands.each client c s client_is seat_is in
    let grown = goes.grows level c (accounts client) was.attends in
    let after : Account = grown.0 in
    let grew : Grew (accounts client) history many after goes.now = grown.1 in
    let attends : Attends level goes.now c after t = grown.2 in
    let es : List Event = events_of grew.added in
    let is_session : (e : Event) → Contains goes.now.events e → 0 < session_in e = λ e has.
    (opened_bounds goes.now.initial goes.now.events goes.legal.legal.formed (session_in e)
    (each_opened goes.now.initial goes.now.events goes.legal.legal.formed e has)).0 in
    let apart : (k n : ℕ) → k ≢ client → k < length clients → opened_in (accounts k).entries ≡ Some n → opened_in after.entries ≡ Some n → ⊥ =
    not_shared level history clients accounts old client many after goes.now stands within grew in
    let here : (k : ℕ) → k ≡ client → opened_in (with_account accounts client after k).entries ≡ opened_in after.entries = λ k is.
    ap (λ (a : Account). opened_in a.entries) (with_same accounts client after k is) in
    let there : (k : ℕ) → k ≢ client → opened_in (with_account accounts client after k).entries ≡ opened_in (accounts k).entries = λ k is.
    ap (λ (a : Account). opened_in a.entries) (with_other accounts client after k is) in (
      after,
      goes.now,
      grew,
      record {
        store = goes.store;
        level_is = grew.comes.level ∙ stands.level_is;
        initial = grew.comes.initial ∙ stands.initial;
        legal = goes.legal;
        count = ap length seats ∙ length-set old.seats.items client t ∙ stands.count;
        each = λ k x seat x_is at.
            elim (slice_get-set_cases old.seats.items client k t seat (subst (λ (v : List Seat). slice_get v k ≡ Some seat) seats at)) [
              | inl found ↦
                  let same : c ≡ x = cc (sym client_is ∙ ap (λ (n : ℕ). slice_get clients n) (sym found.0) ∙ x_is) in
                  subst (λ (a : Account). IsSeated level goes.now x a seat) (sym (with_same accounts client after k found.0))
                  (subst (λ (u : Seat). IsSeated level goes.now x after u) found.1
                  (subst (λ (y : Client). IsSeated level goes.now y after t) same (record {
                    attends = attends;
                    shows = shows;
                    resting = resting;
                    served = serves_of level goes.now c after t attends shows resting tells;
                  })))
              | inr other ↦
                  let before : IsSeated level history x (accounts k) seat = stands.each k x seat x_is other.1 in
                  let inside : k < length clients = slice_get_within clients k x x_is in
                  let more : Attends level goes.now x (accounts k) seat = record {
                    follows = record {
                      stands = before.attends.follows.stands;
                      served_level = before.attends.follows.served_level;
                      past = before.attends.follows.past;
                      valid = before.attends.follows.valid;
                      sits = before.attends.follows.sits;
                      away = before.attends.follows.away;
                      lives = lives_others history goes.now before.attends.follows.past (opened_in (accounts k).entries) es grew.comes
                          (λ i d of. has_session history goes.now es i d grew.comes of is_session)
                          (not_of_other (opened_in (accounts k).entries) (opened_in after.entries) es (λ n. apart k n other.0 inside) grew.own)
                          before.attends.follows.lives;
                    };
                    carries = before.attends.carries;
                  } in
                  subst (λ (a : Account). IsSeated level goes.now x a seat) (sym (with_other accounts client after k other.0)) (record {
                    attends = more;
                    shows = before.shows;
                    resting = before.resting;
                    served = serves_on level history goes.now x (accounts k) seat more before.shows before.served;
                  })
            ];
        owned = λ e has. elim (Contains-append_cases history.events es e (subst (λ (x : List Event). Contains x e) grew.comes.seen has)) [
          | inl before ↦
              let (k, inside, mine) = stands.owned e before in
              elim (either k client) [
                | inl same ↦ (
                  k,
                  inside,
                  here k same
                      ∙ keeps_some (opened_in (accounts client).entries) (opened_in after.entries) history (session_in e)
                      (ap (λ (n : ℕ). opened_in (accounts n).entries) (sym same) ∙ mine) grew.number,
                )
                | inr other ↦ (k, inside, there k other ∙ mine)
              ]
          | inr new ↦ (
            client,
            within,
            here client refl ∙ All-contains (λ (x : Event). opened_in after.entries ≡ Some (session_in x)) es e grew.own new,
          )
        ];
        apart = λ j k n inside_j inside_k number_j number_k. elim (either j client) [
          | inl same_j ↦ elim (either k client) [
            | inl same_k ↦ same_j ∙ sym same_k
            | inr other_k ↦ absurd (apart k n other_k inside_k (sym (there k other_k) ∙ number_k) (sym (here j same_j) ∙ number_j))
          ]
          | inr other_j ↦ elim (either k client) [
            | inl same_k ↦ absurd (apart j n other_j inside_j (sym (there j other_j) ∙ number_j) (sym (here k same_k) ∙ number_k))
            | inr other_k ↦ stands.apart j k n inside_j inside_k (sym (there j other_j) ∙ number_j) (sym (there k other_k) ∙ number_k)
          ]
        ];
      },
    )

-- ---- the answer of a step

append_all_right : {X : Type 0} (P : X → Type 0) (xs ys : List X) → All P (xs ++ ys) → All P ys
append_all_right P [] ys all = all
append_all_right P (x ∷ xs) ys all = append_all_right P xs ys (All-tail P x (xs ++ ys) all)

sent_of : (stream taken : List ℕ) (laid : Option End) (x : Entry) → laid ≢ Some ends.WriteFault → IsFrom stream taken laid x → IsSent x
sent_of stream taken laid (unsent n) resting is = absurd (resting is)
sent_of stream taken laid (stop cause) resting is = tt
sent_of stream taken laid (did a e) resting is = tt
sent_of stream taken laid (refused why) resting is = tt
sent_of stream taken laid (short final n) resting is = tt

-- the client, its account and seat before a step, and after it
pub record Stepped (level : Level) (history : Chronicle) (client : Client) (a : Account) (s : Seat) (now : Chronicle) (added : List Entry)
    (b : Account) (t : Seat) : Type 0 where
  pub before : Attends level history client a s
  pub resting : IsResting s
  pub after : Attends level now client b t
  pub entries : b.entries ≡ a.entries ++ added

all_sent : (level : Level) (history : Chronicle) (client : Client) (a : Account) (s : Seat) (now : Chronicle) (added : List Entry) (b : Account) (t : Seat) →
    Stepped level history client a s now added b t → IsResting t → All IsSent added
all_sent level history client a s now added b t stepped resting = λ k d within.
    sent_of client.stream.items b.taken (outer t.session.stage) (get_or added k d) resting
    (append_all_right (IsFrom client.stream.items b.taken (outer t.session.stage)) a.entries added
    (subst (λ (es : List Entry). All (IsFrom client.stream.items b.taken (outer t.session.stage)) es) stepped.entries stepped.after.carries.causes)
    k d within)

left_unsent : (level : Level) (history : Chronicle) (client : Client) (a : Account) (s : Seat) (now : Chronicle) (added : List Entry) (b : Account) (t : Seat) →
    Stepped level history client a s now added b t → outer t.session.stage ≡ Some ends.WriteFault → (n : ℕ) × Contains added (unsent n)
left_unsent level history client a s now added b t stepped fault =
    let (n, has) = stepped.after.carries.unsent_is fault in (
      n,
      elim (Contains-append_cases a.entries added (unsent n) (subst (λ (es : List Entry). Contains es (unsent n)) stepped.entries has)) [
        | inl old ↦ absurd (stepped.resting
            (All-contains (IsFrom client.stream.items a.taken (outer s.session.stage)) a.entries (unsent n) stepped.before.carries.causes old))
        | inr new ↦ new
      ],
    )

pub answer_of : (result : Result Outcome Memory) (level : Level) (history : Chronicle) (client : Client) (a : Account) (s : Seat) (now : Chronicle) (added : List Entry)
    (b : Account) (t : Seat) (many : ℕ) → Stepped level history client a s now added b t → IsCount result many → ShowsBy result t.end →
    OnOk result (IsResting t) → OnErr result (LeftUnsent t) → IsAnswer result many added t.end
answer_of (Ok Called) level history client a s now added b t many stepped count shows resting fault =
    (count, all_sent level history client a s now added b t stepped resting, shows)
answer_of (Ok Ended) level history client a s now added b t many stepped count shows resting fault =
    (count, all_sent level history client a s now added b t stepped resting, shows)
answer_of (Err e) level history client a s now added b t many stepped count shows resting fault =
    (left_unsent level history client a s now added b t stepped fault.laid, shows)

-- the whole step of a hall
pub hall_steps : (result : Result Outcome Memory) (level : Level) (history : Chronicle) (clients : List Client) (accounts : ℕ → Account) (old new : Hall)
    (client : ℕ) (s t : Seat) (many : ℕ) → StandsFor level history clients accounts old → client < length clients →
    slice_get old.seats.items client ≡ Some s → new.seats.items ≡ set old.seats.items client t → IsResting s → IsCount result many →
    Goes history s many new.store t → ShowsEnd t.end (wanted t.session) → ShowsBy result t.end → TellsAll t.session →
    (t.end ≡ None → IsResting t) → OnOk result (IsResting t) → OnErr result (LeftUnsent t) → IsStep clients accounts history client result level new
hall_steps result level history clients accounts old new client s t many stands within seat_is seats resting_before count goes shows by tells resting ok fault =
    let (after, now, grew, stands_new) =
    hall_moves level history clients accounts old new client s t many stands within seat_is seats goes shows resting tells in
    let (c, client_is) = item_at clients client within in
    let at : slice_get new.seats.items client ≡ Some t =
    ap (λ (v : List Seat). slice_get v client) seats ∙ slice_get-set_same old.seats.items client t
    (slice_get_within old.seats.items client s seat_is) in
    let seated : IsSeated level now c after t =
    subst (λ (a : Account). IsSeated level now c a t) (with_same accounts client after client refl) (stands_new.each client c t client_is at) in
    record {
      many = many;
      after = after;
      now = now;
      grew = grew;
      stands = stands_new;
      seat = t;
      seated = at;
      answer = answer_of result level history c (accounts client) s now grew.added after t many (record {
        before = (stands.each client c s client_is seat_is).attends;
        resting = resting_before;
        after = seated.attends;
        entries = grew.entries;
      }) count by ok fault;
    }

-- an ended client's step changes nothing
with_own : (accounts : ℕ → Account) (client k : ℕ) → with_account accounts client (accounts client) k ≡ accounts k
with_own accounts client k = elim (either k client) [
  | inl same ↦ with_same accounts client (accounts client) k same ∙ ap accounts (sym same)
  | inr other ↦ with_other accounts client (accounts client) k other
]

stands_same : (level : Level) (history : Chronicle) (clients : List Client) (accounts : ℕ → Account) (hall : Hall) (client : ℕ) →
    StandsFor level history clients accounts hall → StandsFor level history clients (with_account accounts client (accounts client)) hall
stands_same level history clients accounts hall client stands =
    let number : (k : ℕ) → opened_in (with_account accounts client (accounts client) k).entries ≡ opened_in (accounts k).entries = λ k.
    ap (λ (a : Account). opened_in a.entries) (with_own accounts client k) in
    record {
      store = stands.store;
      level_is = stands.level_is;
      initial = stands.initial;
      legal = stands.legal;
      count = stands.count;
      each = λ k c seat c_is at. subst (λ (a : Account). IsSeated level history c a seat) (sym (with_own accounts client k)) (stands.each k c seat c_is at);
      owned = λ e has. let (k, inside, mine) = stands.owned e has in (k, inside, number k ∙ mine);
      apart = λ j k n inside_j inside_k at_j at_k. stands.apart j k n inside_j inside_k (sym (number j) ∙ at_j) (sym (number k) ∙ at_k);
    }

pub hall_rests : (level : Level) (history : Chronicle) (clients : List Client) (accounts : ℕ → Account) (hall : Hall) (client : ℕ) (s : Seat) →
    StandsFor level history clients accounts hall → slice_get hall.seats.items client ≡ Some s → HasEnd s.end →
    IsStep clients accounts history client (Ok Ended) level hall
hall_rests level history clients accounts hall client s stands at over = record {
  many = 0;
  after = accounts client;
  now = history;
  grew = record {
    heard = [];
    asked = [];
    added = [];
    said = [];
    taken = sym (append-nil (accounts client).taken);
    calls = sym (append-nil (accounts client).calls);
    count = refl;
    entries = sym (append-nil (accounts client).entries);
    sent = sym (append-nil (accounts client).sent);
    comes = comes_none history;
    few = omega arith;
    own = All-nil (λ (e : Event). opened_in (accounts client).entries ≡ Some (session_in e));
    number = keeps_same (opened_in (accounts client).entries) (opened_in (accounts client).entries) history refl;
  };
  stands = stands_same level history clients accounts hall client stands;
  seat = s;
  seated = at;
  answer = (omega arith, All-nil IsSent, over);
}

-- the seat of a client
pub seat_known : (level : Level) (history : Chronicle) (clients : List Client) (accounts : ℕ → Account) (hall : Hall) (k : ℕ) (seat : Seat) →
    StandsFor level history clients accounts hall → k < length hall.seats.items → seat ≡ get_or hall.seats.items k seat →
    (client : Client) × (slice_get hall.seats.items k ≡ Some seat) × IsSeated level history client (accounts k) seat
seat_known level history clients accounts hall k seat stands within is =
    let (client, client_is) = item_at clients k (omega (arith, within, stands.count)) in
    let at : slice_get hall.seats.items k ≡ Some seat = slice_get_read hall.seats.items (length hall.seats.items) k seat refl within is in
    (client, at, stands.each k client seat client_is at)

-- the one seat at a place
pub same_seat : (seats : List Seat) (k : ℕ) (a b : Seat) → k < length seats → a ≡ get_or seats k a → b ≡ get_or seats k b → a ≡ b
same_seat seats k a b within a_is b_is =
    some_item a b
    (sym (slice_get_read seats (length seats) k a refl within a_is) ∙ slice_get_read seats (length seats) k b refl within b_is)

pub some_end : (o : Option End) → true ≡ is_some o → HasEnd o
some_end None is = absurd (cc is)
some_end (Some e) is = tt

pub none_end : (o : Option End) → false ≡ is_some o → o ≡ None
none_end None is = refl
none_end (Some e) is = absurd (cc is)

pub resting_of : (result : Result Outcome Memory) (end : Option End) (P : Type 0) → ShowsBy result end → OnOk result P → end ≡ None → P
resting_of (Ok Called) end P by ok none = ok
resting_of (Ok Ended) end P by ok none = ok
resting_of (Err e) end P by ok none = absurd (cc (sym by ∙ none))

pub not_ended : (hall : Hall) (k : ℕ) (a : Seat) → slice_get hall.seats.items k ≡ Some a → a.end ≡ None → HasEnded hall k → ⊥
not_ended hall k a at none (seat, end, there, is) =
    let same : a ≡ seat = some_item a seat (sym at ∙ there) in
    no_end (sym none ∙ ap (λ (s : Seat). s.end) same ∙ is)
  where
    no_end : {e : End} → None ≡ Some e → ⊥
    no_end same = cc same
