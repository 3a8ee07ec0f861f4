-- The last transaction that a session has begun, and how it changes.
use Rattle.std.proofs.Common.{◌≡◌, ◌≢◌, ℕ, ◌+◌, ◌≤◌, List, [], ◌∷◌, ◌++◌, None, Some, false, arith, refl, ap, sym, ◌∙◌, inl, inr}
use Rattle.std.proofs.lemmas.Bool.{cases_lt, cases_order, false≢true}
use Rattle.cell_base.specs.declared.level.Level.{Level}
use Rattle.history_core.specs.declared.event.Event.{Event}
use Rattle.history_core.specs.declared.event.Event.TheVariants.{Begin}
use Rattle.history_core.specs.Events.{begun, session_in, is_begin}
use Rattle.history_core.specs.Transactions.{IsPending}
use Rattle.history_core.proofs.Grown.{start_back, start_kept}
use Rattle.history_core.proofs.Prefixes.{IsSound, start_bounded, begun-push_start}
use Rattle.history_core.proofs.Next.{pending_begin}
use Rattle.further_reads.specs.Begun.{with_begin, IsLastBegun}

pub last_begun_bounded : (events : List Event) (s last : ℕ) → IsLastBegun events s last → last ≤ begun events
last_begun_bounded events s last is =
    elim is.is [ inl none ↦ omega arith | inr found ↦ start_bounded events last s found.0 found.1 ]

pub last_begun_unique : (events : List Event) (s a b : ℕ) → IsLastBegun events s a → IsLastBegun events s b → a ≡ b
last_begun_unique events s a b first second =
    elim (cases_order a b) [
      | inl same ↦ same
      | inr apart ↦ elim apart [
        | inl less ↦ elim second.is [
          | inl none ↦ absurd (omega arith)
          | inr found ↦ let h = first.latest b found.0 found.1 in absurd (omega arith)
        ]
        | inr more ↦ elim first.is [
          | inl none ↦ absurd (omega arith)
          | inr found ↦ let h = second.latest a found.0 found.1 in absurd (omega arith)
        ]
      ]
    ]

-- a pending transaction is the last of its session
pub pending_is_last : (events : List Event) → IsSound events → (k s : ℕ) → IsPending events k s → IsLastBegun events s k
pending_is_last events sound k s pending = record {
  is = inr (pending.start, pending.starts);
  latest = λ other place start. elim (cases_lt k other) [
    | inr before ↦ before
    | inl later ↦ absurd (sound.last k s other pending record {
      earlier = later;
      place = place;
      session = s;
      started = start;
      same = inr (pending.start, pending.starts);
    })
  ];
}

-- ---- how it changes

pub last_begun_none : (s : ℕ) → IsLastBegun [] s 0
last_begun_none s = record {
  is = inl refl;
  latest = λ other place start. let is : None ≡ Some (Begin s start.level) = start.is in absurd cc;
}

-- an event that doesn't begin a transaction of the session leaves it
last_begun_kept :
    (events : List Event) (e : Event) (s last : ℕ) → ((level : Level) → e ≡ Begin s level → ⊥) → IsLastBegun events s last →
    IsLastBegun (events ++ e ∷ []) s last
last_begun_kept events e s last other is = record {
  is = elim is.is [ inl none ↦ inl none | inr found ↦ inr (found.0, start_kept events e last s found.0 found.1) ];
  latest = λ m place start. elim (start_back events e m s place start) [
    | inl old ↦ is.latest m place old
    | inr new ↦ absurd (other new.level new.is)
  ];
}

pub last_begun_still : (events : List Event) (e : Event) (s last : ℕ) → is_begin e ≡ false → IsLastBegun events s last → IsLastBegun (events ++ e ∷ []) s last
last_begun_still events e s last none = last_begun_kept events e s last (λ level is. false≢true (sym none ∙ ap is_begin is))

pub last_begun_other :
    (events : List Event) (t : ℕ) (level : Level) (s last : ℕ) → s ≢ t → IsLastBegun events s last → IsLastBegun (with_begin events t level) s last
last_begun_other events t level s last apart =
    last_begun_kept events (Begin t level) s last (λ other is. apart (sym (ap session_in is)))

pub last_begun_now : (events : List Event) (s : ℕ) (level : Level) → IsLastBegun (with_begin events s level) s (begun events + 1)
last_begun_now events s level =
    let begins : IsPending (with_begin events s level) (begun events + 1) s = pending_begin events s level in
    let one : begun (with_begin events s level) ≡ begun events + 1 = begun-push_start events s level in
    record {
      is = inr (begins.start, begins.starts);
      latest = λ m place start. let h = start_bounded (with_begin events s level) m s place start in omega arith;
    }
