-- An event that keeps to all rules fits what came before.
use Rattle.std.proofs.Common.{◌≡◌, ℕ, ◌+◌, ◌<◌, ◌≤◌, List, [], ◌∷◌, ◌++◌, cond, arith, subst, inl, inr}
use Rattle.std.specs.List.{Contains}
use Rattle.graph_base.proofs.Places.{count_by-push}
use Rattle.txn_buffer.proofs.Lists.{slice_get_push_cases, at_contains}
use Rattle.cell_base.specs.declared.cell.Cell.{Cell}
use Rattle.cell_base.specs.declared.value.Value.{Value}
use Rattle.history_core.specs.declared.event.Event.{Event}
use Rattle.history_core.specs.declared.event.Event.TheVariants.{Open, Close, Define, Look, Begin, Scan, Read, Own, Write, Commit, Rollback, Show}
use Rattle.history_core.specs.Events.{opened, session_in, is_open_event}
use Rattle.history_core.specs.Transactions.{IsPending, HasPending}
use Rattle.history_core.specs.Legal.{Follows, IsOpen}
use Rattle.history_check.specs.Rules.{shape, number, keys, own, value, IsRight, IsInShape}
use Rattle.history_check.specs.Notes.{AreOfSessions}

pub right_follows : (initial : List (Cell × Value)) (before : List Event) (e : Event) → IsRight initial before e → Follows initial before e
right_follows initial before (Open s) right = right shape
right_follows initial before (Close s) right = right shape
right_follows initial before (Define s name) right = right shape
right_follows initial before (Look s tables) right = (right shape, right number)
right_follows initial before (Begin s level) right = right shape
right_follows initial before (Scan s table listed) right = let h = right shape in (h.0, h.1, right keys)
right_follows initial before (Read s cell from offered word v) right = let h = right shape in (h.0, right own, h.1, right value)
right_follows initial before (Own s cell v) right = right value
right_follows initial before (Write s cell v) right = right shape
right_follows initial before (Commit s) right = right shape
right_follows initial before (Rollback s) right = right shape
right_follows initial before (Show s n) right = (right shape, right number)

-- ---- the sessions of events

pub open_bounds : (events : List Event) (s : ℕ) → AreOfSessions events → Contains events (Open s) → (0 < s) × (s ≤ opened events)
open_bounds events s are member =
    let found = at_contains events (Open s) member in
    are found.0 (Open s) found.1

pub pending_bounds : (events : List Event) (k s : ℕ) → AreOfSessions events → IsPending events k s → (0 < s) × (s ≤ opened events)
pending_bounds events k s are pending = are pending.start _ pending.starts.is

pub opened-push : (events : List Event) (e : Event) → opened (events ++ e ∷ []) ≡ opened events + cond (is_open_event e) 1 0
opened-push events e = count_by-push is_open_event events e

-- the session of the next event
pub next_session :
    (events : List Event) (e : Event) → AreOfSessions events → IsInShape events e → (0 < session_in e) × (session_in e ≤ opened (events ++ e ∷ []))
next_session events e are fits =
    let more = opened-push events e in
    by_cases e fits more
  where
    of_open : (s n : ℕ) → IsOpen events s → n ≡ opened events + 0 → (0 < s) × (s ≤ n)
    of_open s n is more = let h = open_bounds events s are is.0 in (h.0, let b = h.1 in omega arith)

    of_pending : (s n : ℕ) → HasPending events s → n ≡ opened events + 0 → (0 < s) × (s ≤ n)
    of_pending s n has more = let h = pending_bounds events has.0 s are has.1 in (h.0, let b = h.1 in omega arith)

    by_cases :
        (e : Event) → IsInShape events e → opened (events ++ e ∷ []) ≡ opened events + cond (is_open_event e) 1 0 →
        (0 < session_in e) × (session_in e ≤ opened (events ++ e ∷ []))
    by_cases (Open s) fits more = (omega arith, omega arith)
    by_cases (Close s) fits more = of_open s _ fits.0 more
    by_cases (Define s name) fits more = of_open s _ fits.0 more
    by_cases (Look s tables) fits more = of_open s _ fits more
    by_cases (Begin s level) fits more = of_open s _ fits.0 more
    by_cases (Scan s table listed) fits more = of_pending s _ fits.0 more
    by_cases (Read s cell from offered word v) fits more = of_pending s _ fits.0 more
    by_cases (Own s cell v) fits more = of_pending s _ fits.0 more
    by_cases (Write s cell v) fits more = of_pending s _ fits.0 more
    by_cases (Commit s) fits more = of_pending s _ fits more
    by_cases (Rollback s) fits more = of_pending s _ fits more
    by_cases (Show s n) fits more = of_open s _ fits more

pub sessions_push :
    (events : List Event) (e : Event) → (0 < session_in e) × (session_in e ≤ opened (events ++ e ∷ [])) → AreOfSessions events → AreOfSessions (events ++ e ∷ [])
sessions_push events e next are k f is =
    elim (slice_get_push_cases events e k f is) [
      | inl old ↦
          let h = are k f old.1 in
          let more = opened-push events e in
          (h.0, let b = h.1 in omega arith)
      | inr new ↦ subst (λ (g : Event). (0 < session_in g) × (session_in g ≤ opened (events ++ e ∷ []))) new.1 next
    ]
