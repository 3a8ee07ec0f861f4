-- Events of other sessions leave where a session stands, and the number of a session that opens is nobody's before.
use Rattle.std.proofs.Common.{◌≡◌, ◌≢◌, ℕ, ◌+◌, List, [], ◌∷◌, ◌++◌, sym, ◌∙◌, ap, subst, arith, append_assoc, inl, inr}
use Rattle.std.specs.Prelude.{All, Contains}
use Rattle.std.proofs.lemmas.Bool.{ne_eqb}
use Rattle.std.proofs.lemmas.List.{append-nil}
use Rattle.std.proofs.lemmas.List.Elements.{All-head, All-tail, Contains-append_left, Contains-push_cases, Contains-push, Contains-get_or}
use Rattle.cell_base.specs.declared.cell.Cell.{Cell}
use Rattle.cell_base.specs.declared.value.Value.{Value}
use Rattle.history_core.specs.declared.event.Event.{Event}
use Rattle.history_core.specs.declared.event.Event.TheVariants.{Open, Close, Define, Look, Begin, Scan, Read, Own, Write, Commit, Rollback, Show}
use Rattle.history_core.specs.Events.{session_in, opened}
use Rattle.history_core.specs.Transactions.{HasPending}
use Rattle.history_core.specs.Legal.{IsFormed, Follows}
use Rattle.history_book.specs.Book.{SessionState, no_session, in_session, pending, session_of}
use Rattle.history_core.proofs.SessionLemmas.{open_still, pending_still}
use Rattle.history_core.proofs.Numbers.{opened_bounds, pending_opened}
use Rattle.history_core.proofs.Prefixes.{along, formed_back}
use Rattle.valid_writes.specs.Seats.{StandsIn}
use Rattle.valid_writes.proofs.Writes.{last_writes-skip}

idle_other : (events : List Event) (e : Event) (s : ℕ) → session_in e ≢ s → (HasPending events s → ⊥) → HasPending (events ++ e ∷ []) s → ⊥
idle_other events e s other none (k, pending_is) =
    none (k, (pending_still events e s (λ level same. other (ap session_in same)) (λ same. absurd (other same)) k).0 pending_is)

stands_other : (state : SessionState) (events : List Event) (e : Event) → session_in e ≢ session_of state → StandsIn state events →
    StandsIn state (events ++ e ∷ [])
stands_other no_session events e other stands = tt
stands_other (in_session s) events e other stands = (
  (open_still events e s (λ same. other (ap session_in same)) (λ same. other (ap session_in same))).1 stands.0,
  idle_other events e s other stands.1,
)
stands_other (pending s writes) events e other stands = (
  (open_still events e s (λ same. other (ap session_in same)) (λ same. other (ap session_in same))).1 stands.0,
  (stands.1.0, (pending_still events e s (λ level same. other (ap session_in same)) (λ same. absurd (other same)) stands.1.0).1 stands.1.1),
  stands.2 ∙ sym (last_writes-skip events s e (ne_eqb (session_in e) s other)),
)

pub stands_others : (state : SessionState) (events es : List Event) → All (λ (e : Event). session_in e ≢ session_of state) es →
    StandsIn state events → StandsIn state (events ++ es)
stands_others state events [] others stands = subst (λ (x : List Event). StandsIn state x) (sym (append-nil events)) stands
stands_others state events (e ∷ es) others stands =
    subst (λ (x : List Event). StandsIn state x) (append_assoc events (e ∷ []) es)
    (stands_others state (events ++ e ∷ []) es (All-tail (λ (x : Event). session_in x ≢ session_of state) e es others)
    (stands_other state events e (All-head (λ (x : Event). session_in x ≢ session_of state) e es others) stands))

-- the session of an event that may come is one that was opened, by the event itself where it opens one
was_opened : (initial : List (Cell × Value)) (events : List Event) (e : Event) → IsFormed initial events → Follows initial events e →
    Contains (events ++ e ∷ []) (Open (session_in e))
was_opened initial events (Open s) formed f = Contains-push events (Open s)
was_opened initial events (Close s) formed f = Contains-append_left events (Close s ∷ []) (Open s) f.0.0
was_opened initial events (Define s name) formed f = Contains-append_left events (Define s name ∷ []) (Open s) f.0.0
was_opened initial events (Look s count) formed f = Contains-append_left events (Look s count ∷ []) (Open s) f.0.0
was_opened initial events (Begin s level) formed f = Contains-append_left events (Begin s level ∷ []) (Open s) f.0.0
was_opened initial events (Scan s table keys) formed f =
    Contains-append_left events (Scan s table keys ∷ []) (Open s) (pending_opened initial events formed f.0.0 s f.0.1)
was_opened initial events (Read s cell source count word value) formed f =
    Contains-append_left events (Read s cell source count word value ∷ []) (Open s) (pending_opened initial events formed f.0.0 s f.0.1)
was_opened initial events (Own s cell value) formed f =
    Contains-append_left events (Own s cell value ∷ []) (Open s) (pending_opened initial events formed f.0 s f.1)
was_opened initial events (Write s cell value) formed f =
    Contains-append_left events (Write s cell value ∷ []) (Open s) (pending_opened initial events formed f.0.0 s f.0.1)
was_opened initial events (Commit s) formed f =
    Contains-append_left events (Commit s ∷ []) (Open s) (pending_opened initial events formed f.0 s f.1)
was_opened initial events (Rollback s) formed f =
    Contains-append_left events (Rollback s ∷ []) (Open s) (pending_opened initial events formed f.0 s f.1)
was_opened initial events (Show s number) formed f = Contains-append_left events (Show s number ∷ []) (Open s) f.0.0

-- each event's session was opened
pub each_opened : (initial : List (Cell × Value)) (events : List Event) → IsFormed initial events → (e : Event) → Contains events e →
    Contains events (Open (session_in e))
each_opened initial events =
    along (λ (h : List Event). IsFormed initial h → (e : Event) → Contains h e → Contains h (Open (session_in e)))
    (λ h x holds formed e has.
    let both = formed_back initial h x formed in
    elim (Contains-push_cases h x e has) [
      | inl old ↦ Contains-append_left h (x ∷ []) (Open (session_in e)) (holds both.0 e old)
      | inr new ↦ subst (λ (y : Event). Contains (h ++ x ∷ []) (Open (session_in y))) new (was_opened initial h x both.0 both.1.follows)
    ])
    [] events (λ formed e has. absurd (omega (arith, has.1)))

-- sessions are numbered from 1
pub numbered : (initial : List (Cell × Value)) (events : List Event) → IsFormed initial events → All (λ e. session_in e ≢ 0) events
numbered initial events formed k d within = λ same.
    let bounds = opened_bounds initial events formed _ (each_opened initial events formed _ (Contains-get_or events k d within)) in
    absurd (omega (arith, bounds.0, same))

-- the number of the next session is nobody's
pub fresh : (initial : List (Cell × Value)) (events : List Event) (s : ℕ) → IsFormed initial events → s ≡ opened events + 1 →
    All (λ (e : Event). session_in e ≢ s) events
fresh initial events s formed is k d within = λ same.
    let bounds = opened_bounds initial events formed _ (each_opened initial events formed _ (Contains-get_or events k d within)) in
    absurd (omega (arith, bounds.1, same, is))
