-- A formed history opens each session once, and each event's session has been opened.
use Rattle.std.proofs.Common.{◌≡◌, ℕ, ◌+◌, ◌<◌, ◌≤◌, false, cond, List, [], ◌∷◌, ◌++◌, Some, slice_get, take, Contains, arith, refl, sym, ap, ◌∙◌, subst, inl, inr, ◌⊎◌}
use Rattle.std.proofs.lemmas.Bool.{cases_eq}
use Rattle.cell_base.specs.declared.cell.Cell.{Cell}
use Rattle.cell_base.specs.declared.value.Value.{Value}
use Rattle.graph_base.proofs.Places.{count_by-push}
use Rattle.txn_buffer.proofs.Lists.{contains_at, at_contains}
use Rattle.history_core.specs.declared.event.Event.{Event}
use Rattle.history_core.specs.declared.event.Event.TheVariants.{Open, Close, Define, Look, Begin, Scan, Read, Own, Write, Commit, Rollback, Show}
use Rattle.history_core.specs.Events.{session_in, is_open_event, opened}
use Rattle.history_core.specs.Transactions.{HasPending}
use Rattle.history_core.specs.Legal.{Follows, IsFormed}
use Rattle.history_core.specs.Chronicle.{own_events}
use Rattle.history_core.proofs.Prefixes.{along, formed_back}
use Rattle.history_core.proofs.Numbers.{Contains-take, opened_bounds}
use Rattle.shared_book.specs.Finish.{HasEventOf}
use Rattle.serve_command.proofs.OwnEvents.{own_here, own_other, opened_own_append, opened_plain}

is_opening : (e : Event) → (is_open_event e ≡ false) ⊎ ((s : ℕ) × (e ≡ Open s))
is_opening (Open s) = inr (s, refl)
is_opening _ = inl refl

-- what is kept along a history: a session is opened at most once, and one whose number isn't reached yet wasn't
record OpensOnce (events : List Event) (s : ℕ) : Type 0 where
  once : opened (own_events events s) ≤ 1
  not_yet : opened events < s → opened (own_events events s) ≡ 0

opened_own-plain : (e : Event) (s : ℕ) → is_open_event e ≡ false → opened (own_events (e ∷ []) s) ≡ 0
opened_own-plain e s plain = elim (cases_eq (session_in e) s) [
  | inl same ↦ ap opened (own_here e [] s same) ∙ opened_plain e [] plain
  | inr apart ↦ ap opened (own_other e [] s apart)
]

next_plain : (events : List Event) (e : Event) (s : ℕ) → is_open_event e ≡ false → OpensOnce events s → OpensOnce (events ++ e ∷ []) s
next_plain events e s plain before =
    let own = opened_own_append events (e ∷ []) s in
    let none = opened_own-plain e s plain in
    let all = count_by-push is_open_event events e ∙ ap (λ b. opened events + cond b 1 0) plain in
    let kept = before.once in
    record {
      once = omega arith;
      not_yet = λ below. let h = before.not_yet (omega arith) in omega arith;
    }

next_opening : (events : List Event) (t s : ℕ) → t ≡ opened events + 1 → OpensOnce events s → OpensOnce (events ++ Open t ∷ []) s
next_opening events t s number before =
    let own = opened_own_append events (Open t ∷ []) s in
    let all = count_by-push is_open_event events (Open t) in
    let kept = before.once in
    elim (cases_eq t s) [
      | inl same ↦
          let one = ap opened (own_here (Open t) [] s same) in
          let none = before.not_yet (omega arith) in
          record { once = omega arith; not_yet = λ below. absurd (omega arith) }
      | inr apart ↦
          let none = ap opened (own_other (Open t) [] s apart) in
          record { once = omega arith; not_yet = λ below. let h = before.not_yet (omega arith) in omega arith }
    ]

next : (initial : List (Cell × Value)) (events : List Event) (e : Event) (s : ℕ) → Follows initial events e → OpensOnce events s →
    OpensOnce (events ++ e ∷ []) s
next initial events e s follows before = elim (is_opening e) [
  | inl plain ↦ next_plain events e s plain before
  | inr opening ↦
      let number : opening.0 ≡ opened events + 1 = subst (λ (f : Event). Follows initial events f) opening.1 follows in
      subst (λ (f : Event). OpensOnce (events ++ f ∷ []) s) (sym opening.1) (next_opening events opening.0 s number before)
]

opens_once : (initial : List (Cell × Value)) (events : List Event) (s : ℕ) → IsFormed initial events → OpensOnce events s
opens_once initial events s =
    along (λ (h : List Event). IsFormed initial h → OpensOnce h s)
    (λ h e holds formed_next.
    let both = formed_back initial h e formed_next in
    next initial h e s both.1.follows (holds both.0))
    [] events
    (λ _. record { once = omega arith; not_yet = λ _. refl })

-- a formed history opens a session at most once
pub opened_once : (initial : List (Cell × Value)) (events : List Event) (s : ℕ) → IsFormed initial events → opened (own_events events s) ≤ 1
opened_once initial events s formed = (opens_once initial events s formed).once

begun_opened : (initial : List (Cell × Value)) (events : List Event) → IsFormed initial events → (k s : ℕ) → HasPending (take k events) s →
    Contains events (Open s)
begun_opened initial events formed k s pending =
    let starts = pending.1.starts in
    let before = contains_at (take k events) pending.1.start (Begin s starts.level) starts.is in
    let begins = at_contains events (Begin s starts.level) (Contains-take events k (Begin s starts.level) before) in
    Contains-take events begins.0 (Open s) (formed begins.0 (Begin s starts.level) begins.1).follows.0.0

session_opened : (initial : List (Cell × Value)) (events : List Event) → IsFormed initial events → (k : ℕ) (e : Event) → slice_get events k ≡ Some e →
    Contains events (Open (session_in e))
session_opened initial events formed k (Open s) is = contains_at events k (Open s) is
session_opened initial events formed k (Close s) is = Contains-take events k (Open s) (formed k (Close s) is).follows.0.0
session_opened initial events formed k (Define s name) is = Contains-take events k (Open s) (formed k (Define s name) is).follows.0.0
session_opened initial events formed k (Look s count) is = Contains-take events k (Open s) (formed k (Look s count) is).follows.0.0
session_opened initial events formed k (Begin s level) is = Contains-take events k (Open s) (formed k (Begin s level) is).follows.0.0
session_opened initial events formed k (Scan s table keys) is = begun_opened initial events formed k s (formed k (Scan s table keys) is).follows.0
session_opened initial events formed k (Read s cell source count word value) is =
    begun_opened initial events formed k s (formed k (Read s cell source count word value) is).follows.0
session_opened initial events formed k (Own s cell value) is =
    let follows = (formed k (Own s cell value) is).follows in begun_opened initial events formed k s (follows.0, follows.1)
session_opened initial events formed k (Write s cell value) is = begun_opened initial events formed k s (formed k (Write s cell value) is).follows.0
session_opened initial events formed k (Commit s) is = begun_opened initial events formed k s (formed k (Commit s) is).follows
session_opened initial events formed k (Rollback s) is = begun_opened initial events formed k s (formed k (Rollback s) is).follows
session_opened initial events formed k (Show s number) is = Contains-take events k (Open s) (formed k (Show s number) is).follows.0.0

-- sessions are numbered from 1 on
pub session_positive : (initial : List (Cell × Value)) (events : List Event) (s : ℕ) → IsFormed initial events → HasEventOf s events → 0 < s
session_positive initial events s formed (k, e, within, is, same) =
    let found = at_contains events e (k, within, is) in
    let opens = session_opened initial events formed found.0 e found.1 in
    subst (λ (t : ℕ). 0 < t) same (opened_bounds initial events formed (session_in e) opens).0
