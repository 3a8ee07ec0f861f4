-- What a begin forces.
use Rattle.std.proofs.Common.{◌≡◌, ℕ, ◌+◌, ◌≤◌, List, arith, refl, sym, ◌∙◌, subst, inl, inr, ◌⊎◌}
use Rattle.std.proofs.lemmas.Bool.{cases_eq}
use Rattle.graph_base.specs.Chain.{Chained}
use Rattle.graph_base.proofs.Chains.{chained_one, chained_first, chained_mapped}
use Rattle.cell_base.specs.declared.level.Level.{Level}
use Rattle.history_core.specs.declared.event.Event.{Event}
use Rattle.history_core.specs.declared.event.Event.TheVariants.{Begin}
use Rattle.history_core.specs.Events.{begun, session_in}
use Rattle.history_core.specs.Transactions.{IsStart, IsPending}
use Rattle.history_core.specs.Relations.{IsSessionOrdered, Precedes, Demands}
use Rattle.history_core.specs.Forced.{IsForced}
use Rattle.history_core.proofs.Places.{start_session}
use Rattle.history_core.proofs.Grown.{start_back, start_kept, runs_back, reads_back, writes_back}
use Rattle.history_core.proofs.Prefixes.{IsSound, start_bounded, start_positive, precedes_begin, visible_begin}
use Rattle.history_core.proofs.Next.{pending_begin}
use Rattle.saturation.proofs.After.{precedes_kept}
use Rattle.further_reads.specs.Begun.{with_begin, IsBeforeBegun, IsLastBegun, IsBeginLink}
use Rattle.further_reads.proofs.Still.{forced_kept}

-- what precedes after preceded before, or is session order into the new transaction
pub begin_precedes :
    (events : List Event) (s : ℕ) (level : Level) (a b : ℕ) → IsSound events → Precedes (with_begin events s level) a b →
    Precedes events a b ⊎ IsBeforeBegun events s level a b
begin_precedes events s level a b sound (inr wr) =
    elim (reads_back events (Begin s level) b wr.place wr.cell a wr.reads) [
      | inl old ↦ inl (inr record { place = wr.place; cell = wr.cell; reads = old })
      | inr none ↦ absurd none.2
    ]
begin_precedes events s level a b sound (inl so) =
    elim (cases_eq b (begun events + 1)) [
      | inl new ↦ inr (new, so)
      | inr other ↦
          elim (precedes_begin events s level a b sound (inl so)) [ inl old ↦ inl old | inr new ↦ absurd (other new.1) ]
    ]

demands_begin :
    (events : List Event) (s : ℕ) (level : Level) (a b : ℕ) → IsSound events → Demands (with_begin events s level) a b → Demands events a b
demands_begin events s level a b sound d =
    elim (writes_back events (Begin s level) a d.cell d.writes) [
      | inr new ↦ cc (new.1.0)
      | inl writes ↦
          elim (reads_back events (Begin s level) d.reader d.place d.cell b d.reads) [
            | inr none ↦ absurd none.2
            | inl old ↦
                let started : d.reader ≤ begun events =
                start_bounded events d.reader (session_in old.event) old.of_reader.start old.of_reader.starts in
                record {
                  reader = d.reader;
                  place = d.place;
                  cell = d.cell;
                  reads = old;
                  other = d.other;
                  writes = writes;
                  visible = record {
                    level = d.visible.level;
                    runs = runs_back events (Begin s level) d.reader d.visible.level (λ late _. omega arith) d.visible.runs;
                    sees = visible_begin d.visible.level events s level d.reader d.place a sound started d.visible.sees;
                  };
                }
          ]
    ]

pub begin_forced :
    (events : List Event) (s : ℕ) (level : Level) (a b : ℕ) → IsSound events → IsForced (with_begin events s level) a b →
    IsForced events a b ⊎ IsBeforeBegun events s level a b
begin_forced events s level a b sound (inl precedes) =
    elim (begin_precedes events s level a b sound precedes) [ inl old ↦ inl (inl old) | inr new ↦ inr new ]
begin_forced events s level a b sound (inr d) = inl (inr (demands_begin events s level a b sound d))

pub begin_forced_after :
    (events : List Event) (s : ℕ) (level : Level) (a b : ℕ) → IsForced events a b ⊎ IsBeforeBegun events s level a b →
    IsForced (with_begin events s level) a b
begin_forced_after events s level a b (inl old) = forced_kept events (Begin s level) a b old
begin_forced_after events s level a b (inr new) = inl (inl new.1)

pub begin_precedes_after :
    (events : List Event) (s : ℕ) (level : Level) (a b : ℕ) → Precedes events a b ⊎ IsBeforeBegun events s level a b →
    Precedes (with_begin events s level) a b
begin_precedes_after events s level a b (inl old) = precedes_kept events (Begin s level) a b old
begin_precedes_after events s level a b (inr new) = inl new.1

-- ---- by two pairs

-- what session order has before the new transaction is the initial one, the last one of the session, or before that
before_last :
    (events : List Event) (s last : ℕ) (level : Level) → IsLastBegun events s last → (a b : ℕ) → IsBeforeBegun events s level a b →
    IsBeginLink events last a b ⊎ (IsSessionOrdered events a last × IsBeginLink events last last b)
before_last events s last level is a b (new, so) =
    elim so.same [
      | inl initial ↦ inl (new, inl initial)
      | inr other ↦
          let begins = pending_begin events s level in
          let at_new : IsStart (with_begin events s level) (begun events + 1) so.session so.place =
          subst (λ (n : ℕ). IsStart (with_begin events s level) n so.session so.place) new so.started in
          let session_is : so.session ≡ s =
          start_session (with_begin events s level) (begun events + 1) so.session s so.place begins.start at_new begins.starts in
          elim (start_back events (Begin s level) a so.session other.0 other.1) [
            | inr late ↦ let up = so.earlier in let at = late.counts in absurd (omega arith)
            | inl old ↦
                let started : IsStart events a s other.0 = subst (λ (t : ℕ). IsStart events a t other.0) session_is old in
                let below : a ≤ last = is.latest a other.0 started in
                elim (cases_eq a last) [
                  | inl same ↦ inl (new, inr same)
                  | inr apart ↦
                      elim is.is [
                        | inl none ↦ let h = start_positive events a s other.0 started in absurd (omega arith)
                        | inr found ↦ inr (
                          record { earlier = omega arith; place = found.0; session = s; started = found.1; same = inr (other.0, started) },
                          (new, inr refl),
                        )
                      ]
                ]
          ]
    ]

-- and these two are in session order before it
link_before :
    (events : List Event) (s last : ℕ) (level : Level) → IsLastBegun events s last → (a b : ℕ) → IsBeginLink events last a b →
    IsBeforeBegun events s level a b
link_before events s last level is a b (new, either) = (
  new,
  subst (λ (n : ℕ). IsSessionOrdered (with_begin events s level) a n) (sym new)
      (elim either [
        | inl initial ↦ initial_before a initial
        | inr same ↦ elim is.is [
          | inl none ↦ initial_before a (same ∙ none)
          | inr found ↦
              let started : IsStart events a s found.0 = subst (λ (n : ℕ). IsStart events n s found.0) (sym same) found.1 in
              let h : a ≤ begun events = start_bounded events a s found.0 started in
              record {
                earlier = omega arith;
                place = begins.start;
                session = s;
                started = begins.starts;
                same = inr (found.0, start_kept events (Begin s level) a s found.0 started);
              }
        ]
      ]),
)
  where
    begins : IsPending (with_begin events s level) (begun events + 1) s
    begins = pending_begin events s level

    initial_before : (a : ℕ) → a ≡ 0 → IsSessionOrdered (with_begin events s level) a (begun events + 1)
    initial_before a initial =
        record { earlier = omega arith; place = begins.start; session = s; started = begins.starts; same = inl initial }

abbrev OrLinks : (ℕ → ℕ → Type 0) → List Event → ℕ → ℕ → ℕ → Type 0
OrLinks R events last a b = R a b ⊎ IsBeginLink events last a b

-- a relation that holds session order, and gains session order into the new transaction, has the closure of the two pairs
begin_chained :
    (events : List Event) (s last : ℕ) (level : Level) (R S : ℕ → ℕ → Type 0) → IsLastBegun events s last →
    ((a b : ℕ) → IsSessionOrdered events a b → R a b) → ((a b : ℕ) → S a b → R a b ⊎ IsBeforeBegun events s level a b) →
    (a b : ℕ) → Chained S a b → Chained (OrLinks R events last) a b
begin_chained events s last level R S is ordered back =
    chained_mapped S (OrLinks R events last) (λ a b pair. elim (back a b pair) [
      | inl old ↦ chained_one (OrLinks R events last) a b (inl old)
      | inr new ↦ elim (before_last events s last level is a b new) [
        | inl link ↦ chained_one (OrLinks R events last) a b (inr link)
        | inr through ↦
            chained_first (OrLinks R events last) a last b (inl (ordered a last through.0))
            (chained_one (OrLinks R events last) last b (inr through.1))
      ]
    ])

begin_chained_after :
    (events : List Event) (s last : ℕ) (level : Level) (R S : ℕ → ℕ → Type 0) → IsLastBegun events s last →
    ((a b : ℕ) → R a b ⊎ IsBeforeBegun events s level a b → S a b) →
    (a b : ℕ) → Chained (OrLinks R events last) a b → Chained S a b
begin_chained_after events s last level R S is after =
    chained_mapped (OrLinks R events last) S (λ a b pair. chained_one S a b (elim pair [
      | inl old ↦ after a b (inl old)
      | inr link ↦ after a b (inr (link_before events s last level is a b link))
    ]))

pub begin_closure :
    (events : List Event) (s last : ℕ) (level : Level) → IsSound events → IsLastBegun events s last → (a b : ℕ) →
    Chained (IsForced (with_begin events s level)) a b → Chained (λ a b. IsForced events a b ⊎ IsBeginLink events last a b) a b
begin_closure events s last level sound is =
    begin_chained events s last level (IsForced events) (IsForced (with_begin events s level)) is (λ a b so. inl (inl so))
    (λ a b forced. begin_forced events s level a b sound forced)

pub begin_closure_after :
    (events : List Event) (s last : ℕ) (level : Level) → IsLastBegun events s last → (a b : ℕ) →
    Chained (λ a b. IsForced events a b ⊎ IsBeginLink events last a b) a b → Chained (IsForced (with_begin events s level)) a b
begin_closure_after events s last level is =
    begin_chained_after events s last level (IsForced events) (IsForced (with_begin events s level)) is (begin_forced_after events s level)

pub begin_past :
    (events : List Event) (s last : ℕ) (level : Level) → IsSound events → IsLastBegun events s last → (a b : ℕ) →
    Chained (Precedes (with_begin events s level)) a b → Chained (λ a b. Precedes events a b ⊎ IsBeginLink events last a b) a b
begin_past events s last level sound is =
    begin_chained events s last level (Precedes events) (Precedes (with_begin events s level)) is (λ a b so. inl so)
    (λ a b precedes. begin_precedes events s level a b sound precedes)

pub begin_past_after :
    (events : List Event) (s last : ℕ) (level : Level) → IsLastBegun events s last → (a b : ℕ) →
    Chained (λ a b. Precedes events a b ⊎ IsBeginLink events last a b) a b → Chained (Precedes (with_begin events s level)) a b
begin_past_after events s last level is =
    begin_chained_after events s last level (Precedes events) (Precedes (with_begin events s level)) is (begin_precedes_after events s level)
