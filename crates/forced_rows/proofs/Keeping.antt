-- How rows stand for a history with one event more.
use Rattle.std.proofs.Common.{◌≡◌, ℕ, ◌+◌, List, [], ◌∷◌, ◌++◌, ◌⊎◌, arith, refl, ap, sym, ◌∙◌, subst, inl, inr}
use Rattle.std.specs.List.{Contains}
use Rattle.std.proofs.lemmas.Bool.{cases_eq, false≢true}
use Rattle.std.proofs.lemmas.List.Elements.{Contains-append_cases, Contains-append_left, Contains-append_right}
use Rattle.bit_rows.proofs.Marks.{contains_cons}
use Rattle.graph_base.specs.declared.Edge.{Edge}
use Rattle.graph_base.specs.Chain.{IsChain}
use Rattle.graph_base.specs.Closure.{HasEdge, SameClosure}
use Rattle.graph_base.proofs.Chains.{chained_wider}
use Rattle.cell_base.specs.declared.level.Level.{Level}
use Rattle.cell_base.specs.declared.cell.Cell.{Cell}
use Rattle.cell_base.specs.declared.value.Value.{Value}
use Rattle.history_core.specs.declared.event.Event.{Event}
use Rattle.history_core.specs.declared.event.Event.TheVariants.{Begin, Read}
use Rattle.history_core.specs.Events.{begun, is_begin, session_in}
use Rattle.history_core.specs.Transactions.{IsPending, HasPending, RunsAt}
use Rattle.history_core.specs.Relations.{Precedes, Writes}
use Rattle.history_core.specs.Legal.{IsFormed, Follows}
use Rattle.history_core.specs.Forced.{IsForced}
use Rattle.history_core.proofs.Prefixes.{IsSound, sound_of, begun-push_other}
use Rattle.history_core.proofs.Places.{start_session}
use Rattle.history_core.proofs.Next.{pending_back, pending_bounded}
use Rattle.history_core.proofs.Numbers.{pending_positive}
use Rattle.saturation.specs.Laws.{with_read}
use Rattle.saturation.proofs.After.{precedes_kept}
use Rattle.further_reads.specs.Further.{IsReadLink, IsForcedOrNew, PrecedesOrNew, AreNewDemands}
use Rattle.further_reads.specs.Begun.{ForcesNothing, with_begin, IsLastBegun, IsBeginLink}
use Rattle.further_reads.proofs.Still.{forced_kept, others_force, others_precede}
use Rattle.further_reads.proofs.Begins.{begin_closure, begin_closure_after, begin_past, begin_past_after}
use Rattle.further_reads.proofs.NewPairs.{pairs_with, with_pairs, precedes_with, with_precedes}
use Rattle.further_reads.proofs.Lasts.{last_begun_unique, last_begun_none, last_begun_still, last_begun_other, last_begun_now, pending_is_last}
use Rattle.further_reads.proofs.Sources.{reads_from_with, with_reads_from, others_read_from, reads_from_kept, reads_nothing, begins_nothing, unbegun_reads_none}
use Rattle.forced_rows.specs.declared.rows.ForcedRows.{ForcedRows}
use Rattle.forced_rows.specs.declared.seats.Seat.{Seat}
use Rattle.forced_rows.specs.Seats.{empty_seat, seat_at, IsSeatOf, ChangesSeat, ForgetsSources, TakesLast, GainsSource}
use Rattle.forced_rows.specs.Rows.{StandFor, AreRowsOf, begin_edges}
use Rattle.forced_rows.proofs.Closures.{EitherOf, ClosesTo, AreEdgesOf, closes_with, closes_same}

-- ---- lists of one and of two edges

pub nothing : {X : Type 0} (x : X) → Contains [] x → ⊥
nothing x (k, within, at) = absurd (omega arith)

pub one_case : (x e : Edge) → Contains (x ∷ []) e → e ≡ x
one_case x e member = elim (contains_cons x [] e member) [ inl same ↦ sym same | inr later ↦ absurd (nothing e later) ]

pub two_cases : (x y e : Edge) → Contains (x ∷ y ∷ []) e → (e ≡ x) ⊎ (e ≡ y)
two_cases x y e member = elim (contains_cons x (y ∷ []) e member) [ inl same ↦ inl (sym same) | inr later ↦ inr (one_case y e later) ]

-- ---- without events

pub seat_none : (session : ℕ) → IsSeatOf [] session empty_seat
seat_none session = record {
  last = last_begun_none session;
  sources = λ reader source pending.
      let h = pending_bounded [] reader session pending in
      let p = pending_positive [] reader session pending in
      absurd (omega arith);
}

chain_of_none : (R : ℕ → ℕ → Type 0) → ((a b : ℕ) → R a b → ⊥) → (a : ℕ) (between : List ℕ) (b : ℕ) → IsChain R a between b → ⊥
chain_of_none R none a [] b is = none a b is
chain_of_none R none a (x ∷ xs) b (first, rest) = none a x first

-- nothing is forced where no transaction has begun
pub closes_none : (R : ℕ → ℕ → Type 0) → ((a b : ℕ) → R a b → ⊥) → ClosesTo [] R
closes_none R none a b = (
  λ on. let is = on.is in absurd (nothing on.first is.1),
  λ chain. absurd (chain_of_none R none a chain.between b chain.is),
)

-- ---- an event that forces nothing

pub seat_still :
    (events : List Event) (e : Event) (session : ℕ) (seat : Seat) → ForcesNothing e → IsSeatOf events session seat → IsSeatOf (events ++ e ∷ []) session seat
seat_still events e session seat quiet is = record {
  last = last_begun_still events e session seat.last (begins_nothing e quiet) is.last;
  sources = λ reader source pending positive.
      elim (pending_back events e reader session pending) [
        | inl old ↦
            let before = is.sources reader source old.0 positive in (
              λ member. reads_from_kept events e source reader (before.0 member),
              λ reads. before.1 (others_read_from events e (reads_nothing e quiet) source reader positive reads),
            )
        | inr begins ↦ absurd (false≢true (sym (begins_nothing e quiet) ∙ ap is_begin begins.is))
      ];
}

pub stand_still :
    (initial : List (Cell × Value)) (events : List Event) (e : Event) (rows : ForcedRows) → IsSound events → Follows initial events e → ForcesNothing e →
    StandFor events rows → StandFor (events ++ e ∷ []) rows
stand_still initial events e rows sound follows quiet stand = record {
  forced = closes_same (IsForced events) (IsForced (events ++ e ∷ [])) rows.reach.pairs stand.forced (λ a b. (
    chained_wider (IsForced (events ++ e ∷ [])) (IsForced events) (others_force initial events e sound follows quiet) a b,
    chained_wider (IsForced events) (IsForced (events ++ e ∷ [])) (forced_kept events e) a b,
  ));
  past = closes_same (Precedes events) (Precedes (events ++ e ∷ [])) rows.past.pairs stand.past (λ a b. (
    chained_wider (Precedes (events ++ e ∷ [])) (Precedes events) (others_precede events e quiet) a b,
    chained_wider (Precedes events) (Precedes (events ++ e ∷ [])) (precedes_kept events e) a b,
  ));
  seats = λ session. seat_still events e session (seat_at rows.seats.items session) quiet (stand.seats session);
}

pub rows_still :
    (initial : List (Cell × Value)) (events : List Event) (e : Event) (rows : ForcedRows) → IsFormed initial events → Follows initial events e → ForcesNothing e →
    AreRowsOf events rows → AreRowsOf (events ++ e ∷ []) rows
rows_still initial events e rows formed follows quiet are =
    let same : begun (events ++ e ∷ []) ≡ begun events = begun-push_other events e (begins_nothing e quiet) in record {
      size = let h = are.size in omega arith;
      past_size = let h = are.past_size in omega arith;
      stand = stand_still initial events e rows (sound_of initial events formed) follows quiet are.stand;
    }

-- ---- room for a begin

-- the seat of a session without a pending transaction may forget its sources
pub seat_forgets :
    (events : List Event) (session : ℕ) (old new : Seat) → (HasPending events session → ⊥) → IsSeatOf events session old → ForgetsSources old new →
    IsSeatOf events session new
seat_forgets events session old new idle is (last, none) = record {
  last = subst (λ (n : ℕ). IsLastBegun events session n) (sym last) is.last;
  sources = λ reader source pending positive. absurd (idle (reader, pending));
}

pub seats_forget :
    (events : List Event) (session : ℕ) (old new : List Seat) → (HasPending events session → ⊥) → ((s : ℕ) → IsSeatOf events s (seat_at old s)) →
    ChangesSeat old new session ForgetsSources → (s : ℕ) → IsSeatOf events s (seat_at new s)
seats_forget events session old new idle are changes s =
    elim (cases_eq s session) [
      | inl same ↦ subst (λ (t : ℕ). IsSeatOf events t (seat_at new t)) (sym same)
          (seat_forgets events session (seat_at old session) (seat_at new session) idle (are session) changes.here)
      | inr apart ↦ subst (λ (seat : Seat). IsSeatOf events s seat) (sym (changes.others s apart)) (are s)
    ]

-- ---- a begin

pub seat_begins :
    (events : List Event) (session : ℕ) (level : Level) (old new : Seat) → (HasPending events session → ⊥) → old.sources ≡ [] →
    TakesLast (begun events + 1) old new → IsSeatOf (with_begin events session level) session new
seat_begins events session level old new idle none (last, sources) = record {
  last = subst (λ (n : ℕ). IsLastBegun (with_begin events session level) session n) (sym last) (last_begun_now events session level);
  sources = λ reader source pending positive.
      elim (pending_back events (Begin session level) reader session pending) [
        | inl before ↦ absurd (idle (reader, before.0))
        | inr begins ↦ (
          λ member. absurd (nothing source (subst (λ (xs : List ℕ). Contains xs source) (sources ∙ none) member)),
          λ reads.
              let before = others_read_from events (Begin session level) tt source reader positive reads in
              absurd (unbegun_reads_none events source reader (let h = begins.counts in omega arith) before),
        )
      ];
}

pub seat_other_begins :
    (events : List Event) (session : ℕ) (level : Level) (s : ℕ) (seat : Seat) → (s ≡ session → ⊥) → IsSeatOf events s seat →
    IsSeatOf (with_begin events session level) s seat
seat_other_begins events session level s seat apart is = record {
  last = last_begun_other events session level s seat.last apart is.last;
  sources = λ reader source pending positive.
      elim (pending_back events (Begin session level) reader s pending) [
        | inl before ↦
            let old = is.sources reader source before.0 positive in (
              λ member. reads_from_kept events (Begin session level) source reader (old.0 member),
              λ reads. old.1 (others_read_from events (Begin session level) tt source reader positive reads),
            )
        | inr begins ↦ absurd (apart (sym (ap session_in begins.is)))
      ];
}

pub seats_begin :
    (events : List Event) (session number : ℕ) (level : Level) (old new : List Seat) → (HasPending events session → ⊥) → (seat_at old session).sources ≡ [] →
    number ≡ begun events + 1 → ((s : ℕ) → IsSeatOf events s (seat_at old s)) → ChangesSeat old new session (TakesLast number) →
    (s : ℕ) → IsSeatOf (with_begin events session level) s (seat_at new s)
seats_begin events session number level old new idle none is_next are changes s =
    elim (cases_eq s session) [
      | inl same ↦
          subst (λ (t : ℕ). IsSeatOf (with_begin events session level) t (seat_at new t)) (sym same)
          (seat_begins events session level (seat_at old session) (seat_at new session) idle none
          (subst (λ (n : ℕ). TakesLast n (seat_at old session) (seat_at new session)) is_next changes.here))
      | inr apart ↦
          subst (λ (seat : Seat). IsSeatOf (with_begin events session level) s seat) (sym (changes.others s apart))
          (seat_other_begins events session level s (seat_at old s) apart (are s))
    ]

pub begin_edges_are : (events : List Event) (last number : ℕ) → number ≡ begun events + 1 → AreEdgesOf (begin_edges last number) (IsBeginLink events last)
begin_edges_are events last number is_next a b = (
  λ member. elim (two_cases record { before = 0; after = number } record { before = last; after = number } record { before = a; after = b } member) [
    | inl is ↦ (ap (λ (e : Edge). e.after) is ∙ is_next, inl (ap (λ (e : Edge). e.before) is))
    | inr is ↦ (ap (λ (e : Edge). e.after) is ∙ is_next, inr (ap (λ (e : Edge). e.before) is))
  ],
  λ link.
      let after : b ≡ number = link.0 ∙ sym is_next in
      elim link.1 [
        | inl initial ↦
            subst (λ (n : ℕ). HasEdge (begin_edges last number) n b) (sym initial)
            (subst (λ (n : ℕ). HasEdge (begin_edges last number) 0 n) (sym after) (0, omega arith, refl))
        | inr of_session ↦
            subst (λ (n : ℕ). HasEdge (begin_edges last number) n b) (sym of_session)
            (subst (λ (n : ℕ). HasEdge (begin_edges last number) last n) (sym after) (1, omega arith, refl))
      ],
)

pub stand_begun :
    (events : List Event) (session last number : ℕ) (level : Level) (old new : ForcedRows) → IsSound events → (HasPending events session → ⊥) →
    (seat_at old.seats.items session).sources ≡ [] → last ≡ (seat_at old.seats.items session).last → number ≡ begun events + 1 → StandFor events old →
    SameClosure new.reach.pairs (old.reach.pairs ++ begin_edges last number) → SameClosure new.past.pairs (old.past.pairs ++ begin_edges last number) →
    ChangesSeat old.seats.items new.seats.items session (TakesLast number) → StandFor (with_begin events session level) new
stand_begun events session last number level old new sound idle none is_last is_next stand reach past changes =
    let begun_last : IsLastBegun events session last =
    subst (λ (n : ℕ). IsLastBegun events session n) (sym is_last) (stand.seats session).last in
    let edges = begin_edges_are events last number is_next in record {
      forced = closes_same (EitherOf (IsForced events) (IsBeginLink events last)) (IsForced (with_begin events session level)) new.reach.pairs
          (closes_with (IsForced events) (IsBeginLink events last) old.reach.pairs (begin_edges last number) new.reach.pairs stand.forced edges reach)
          (λ a b. (begin_closure events session last level sound begun_last a b, begin_closure_after events session last level begun_last a b));
      past = closes_same (EitherOf (Precedes events) (IsBeginLink events last)) (Precedes (with_begin events session level)) new.past.pairs
          (closes_with (Precedes events) (IsBeginLink events last) old.past.pairs (begin_edges last number) new.past.pairs stand.past edges past)
          (λ a b. (begin_past events session last level sound begun_last a b, begin_past_after events session last level begun_last a b));
      seats = seats_begin events session number level old.seats.items new.seats.items idle none is_next stand.seats changes;
    }

-- ---- a read

pub pending_unique : (events : List Event) → IsSound events → (a b s : ℕ) → IsPending events a s → IsPending events b s → a ≡ b
pending_unique events sound a b s first second =
    last_begun_unique events s a b (pending_is_last events sound a s first) (pending_is_last events sound b s second)

pub seat_reads :
    (events : List Event) (session reader : ℕ) (cell : Cell) (source count word : ℕ) (value : Value) (old new : Seat) → IsSound events →
    IsPending events reader session → IsSeatOf events session old → GainsSource source old new →
    IsSeatOf (with_read events session cell source count word value) session new
seat_reads events session reader cell source count word value old new sound pending is (last, gains) = record {
  last = subst (λ (n : ℕ). IsLastBegun (with_read events session cell source count word value) session n) (sym last)
      (last_begun_still events (Read session cell source count word value) session old.last refl is.last);
  sources = λ other from still positive.
      elim (pending_back events (Read session cell source count word value) other session still) [
        | inl before ↦
            let one : other ≡ reader = pending_unique events sound other reader session before.0 pending in
            let old_ones = is.sources other from before.0 positive in (
              λ member. elim ((gains from).0 member) [
                | inl kept ↦ reads_from_kept events (Read session cell source count word value) from other (old_ones.0 kept)
                | inr same ↦ with_reads_from events session reader cell source count word value pending from other (inr (same, one))
              ],
              λ reads. elim (reads_from_with events sound session reader cell source count word value pending from other reads) [
                | inl kept ↦ (gains from).1 (inl (old_ones.1 kept))
                | inr link ↦ (gains from).1 (inr link.0)
              ],
            )
        | inr begins ↦ absurd (false≢true (ap is_begin begins.is))
      ];
}

pub seat_other_reads :
    (events : List Event) (session reader : ℕ) (cell : Cell) (source count word : ℕ) (value : Value) (s : ℕ) (seat : Seat) → IsSound events →
    IsPending events reader session → (s ≡ session → ⊥) → IsSeatOf events s seat → IsSeatOf (with_read events session cell source count word value) s seat
seat_other_reads events session reader cell source count word value s seat sound pending apart is = record {
  last = last_begun_still events (Read session cell source count word value) s seat.last refl is.last;
  sources = λ other from still positive.
      elim (pending_back events (Read session cell source count word value) other s still) [
        | inl before ↦
            let old_ones = is.sources other from before.0 positive in (
              λ member. reads_from_kept events (Read session cell source count word value) from other (old_ones.0 member),
              λ reads. elim (reads_from_with events sound session reader cell source count word value pending from other reads) [
                | inl kept ↦ old_ones.1 kept
                | inr link ↦
                    let here : IsPending events reader s = subst (λ (n : ℕ). IsPending events n s) link.1 before.0 in
                    absurd (apart (start_session events reader s session here.start pending.start here.starts pending.starts))
              ],
            )
        | inr begins ↦ absurd (false≢true (ap is_begin begins.is))
      ];
}

pub seats_read :
    (events : List Event) (session reader : ℕ) (cell : Cell) (source count word : ℕ) (value : Value) (old new : List Seat) → IsSound events →
    IsPending events reader session → ((s : ℕ) → IsSeatOf events s (seat_at old s)) → ChangesSeat old new session (GainsSource source) →
    (s : ℕ) → IsSeatOf (with_read events session cell source count word value) s (seat_at new s)
seats_read events session reader cell source count word value old new sound pending are changes s =
    elim (cases_eq s session) [
      | inl same ↦
          subst (λ (t : ℕ). IsSeatOf (with_read events session cell source count word value) t (seat_at new t)) (sym same)
          (seat_reads events session reader cell source count word value (seat_at old session) (seat_at new session) sound pending (are session) changes.here)
      | inr apart ↦
          subst (λ (seat : Seat). IsSeatOf (with_read events session cell source count word value) s seat) (sym (changes.others s apart))
          (seat_other_reads events session reader cell source count word value s (seat_at old s) sound pending apart (are s))
    ]

abbrev pub link_of : ℕ → ℕ → List Edge
link_of source reader = record { before = source; after = reader } ∷ []

pub link_is : (source reader : ℕ) → AreEdgesOf (link_of source reader) (IsReadLink source reader)
link_is source reader a b = (
  λ member.
      let is = one_case record { before = source; after = reader } record { before = a; after = b } member in
      (ap (λ (e : Edge). e.before) is, ap (λ (e : Edge). e.after) is),
  λ link.
      subst (λ (n : ℕ). HasEdge (link_of source reader) n b) (sym link.0)
      (subst (λ (n : ℕ). HasEdge (link_of source reader) source n) (sym link.1) (0, omega arith, refl)),
)

pub linked_edges :
    (edges : List Edge) (source reader : ℕ) → AreEdgesOf (edges ++ link_of source reader) (EitherOf (HasEdge edges) (IsReadLink source reader))
linked_edges edges source reader a b = (
  λ member. elim (Contains-append_cases edges (link_of source reader) record { before = a; after = b } member) [
    | inl old ↦ inl old
    | inr new ↦ inr ((link_is source reader a b).0 new)
  ],
  λ is. elim is [
    | inl old ↦ Contains-append_left edges (link_of source reader) record { before = a; after = b } old
    | inr link ↦ Contains-append_right edges (link_of source reader) record { before = a; after = b } ((link_is source reader a b).1 link)
  ],
)

pub stand_read :
    (events : List Event) (session reader : ℕ) (level : Level) (cell : Cell) (source count word : ℕ) (value : Value) (edges : List Edge) (old new : ForcedRows) →
    IsSound events → IsPending events reader session → RunsAt events reader level → Writes events source cell →
    AreNewDemands level events reader cell source edges → StandFor events old →
    SameClosure new.reach.pairs (old.reach.pairs ++ (edges ++ link_of source reader)) → SameClosure new.past.pairs (old.past.pairs ++ link_of source reader) →
    ChangesSeat old.seats.items new.seats.items session (GainsSource source) → StandFor (with_read events session cell source count word value) new
stand_read events session reader level cell source count word value edges old new sound pending runs writes demands stand reach past changes =
    let now = with_read events session cell source count word value in record {
      forced = closes_same (IsForcedOrNew events edges source reader) (IsForced now) new.reach.pairs
          (closes_with (IsForced events) (EitherOf (HasEdge edges) (IsReadLink source reader)) old.reach.pairs (edges ++ link_of source reader) new.reach.pairs
          stand.forced (linked_edges edges source reader) reach)
          (λ a b. (
            chained_wider (IsForced now) (IsForcedOrNew events edges source reader)
                (pairs_with level events sound session reader cell source count word value edges pending runs writes demands) a b,
            chained_wider (IsForcedOrNew events edges source reader) (IsForced now)
                (with_pairs level events session reader cell source count word value edges pending runs demands) a b,
          ));
      past = closes_same (PrecedesOrNew events source reader) (Precedes now) new.past.pairs
          (closes_with (Precedes events) (IsReadLink source reader) old.past.pairs (link_of source reader) new.past.pairs stand.past (link_is source reader) past)
          (λ a b. (
            chained_wider (Precedes now) (PrecedesOrNew events source reader)
                (precedes_with events sound session reader cell source count word value pending) a b,
            chained_wider (PrecedesOrNew events source reader) (Precedes now)
                (with_precedes events session reader cell source count word value pending) a b,
          ));
      seats = seats_read events session reader cell source count word value old.seats.items new.seats.items sound pending stand.seats changes;
    }
