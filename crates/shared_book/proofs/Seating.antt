-- A call at a seat within a turn.
use Rattle.std.proofs.Common.{◌≡◌, ℕ, List, refl, ap, sym, ◌∙◌, subst, Option, Some}
use Rattle.std.specs.Prelude.{IfSome, IfNone}
use Rattle.history_core.specs.declared.event.Event.{Event}
use Rattle.history_core.specs.Transactions.{HasPending}
use Rattle.history_core.specs.Legal.{IsOpen}
use Rattle.history_core.specs.Chronicle.{Chronicle, IsLegalChronicle}
use Rattle.history_book.specs.Book.{Past, SessionState, no_session, in_session, pending}
use Rattle.valid_writes.specs.Desk.{last_writes}
use Rattle.valid_writes.specs.Seats.{StandsIn}
use Rattle.shared_book.specs.declared.place.Place.{Place}
use Rattle.shared_book.specs.declared.place.Place.TheVariants.{NoSession, InSession, Pending}
use Rattle.turn_lock.specs.Entries.{AddsAtMostOne}
use Rattle.shared_book.specs.Entries.{entries_of}
use Rattle.shared_book.specs.Places.{state_at, session_at, IsAt}
use Rattle.shared_book.specs.Turns.{AddsOne, Turned, past_with}
use Rattle.shared_book.proofs.Found.{state_is, adds_at_most_one}

pub at_place : (place : Place) (events : List Event) → IsAt place (state_at place events)
at_place NoSession events = tt
at_place (InSession s) events = refl
at_place (Pending s) events = refl

pub seat_open : (place : Place) (session : Option ℕ) (events : List Event) → session ≡ session_at place → StandsIn (state_at place events) events →
    IfSome session (λ s. IsOpen events s)
seat_open place session events is stands = subst (λ (o : Option ℕ). IfSome o (λ s. IsOpen events s)) (sym is) (by_place place stands)
  where
    by_place : (p : Place) → StandsIn (state_at p events) events → IfSome (session_at p) (λ s. IsOpen events s)
    by_place NoSession there = tt
    by_place (InSession s) there = there.0
    by_place (Pending s) there = there.0

-- the state of a book that was seated is that of its place
pub seat_state : (place : Place) (session : Option ℕ) (events : List Event) (state : SessionState) → session ≡ session_at place →
    StandsIn (state_at place events) events → IfNone session (state ≡ no_session) →
    ((s : ℕ) → session ≡ Some s → (HasPending events s → ⊥) → state ≡ in_session s) →
    ((s : ℕ) → session ≡ Some s → HasPending events s → state ≡ pending s (last_writes events s)) → state ≡ state_at place events
seat_state NoSession session events state is stands none idle busy = subst (λ (o : Option ℕ). IfNone o (state ≡ no_session)) is none
seat_state (InSession s) session events state is stands none idle busy = idle s is stands.1
seat_state (Pending s) session events state is stands none idle busy = busy s is stands.1

pub turned_is : {A : Type 0} (place after : Place) (does : Past → A → Past → Type 0) (x y : Chronicle) (old new : Past) (answer : A) →
    old.seen ≡ x → old.state ≡ state_at place x.events → y ≡ new.seen → IsAt after new.state → StandsIn new.state new.seen.events →
    IsLegalChronicle x → IsLegalChronicle new.seen → AddsOne old new → does old answer new → Turned place does x after answer y
turned_is place after does x y old new answer seen state left at stands legal legal_after adds did =
    let then : new.state ≡ state_at after y.events = state_is after new.state new.seen.events at stands ∙ ap (λ (h : Chronicle). state_at after h.events) (sym left) in
    let before : old ≡ past_with x old.own (state_at place x.events) = λ i. record { seen = seen i; own = old.own; state = state i } in
    let following : new ≡ past_with y new.own (state_at after y.events) = λ i. record { seen = (sym left) i; own = new.own; state = then i } in
    record {
      legal = legal;
      legal_after = subst (λ (h : Chronicle). IsLegalChronicle h) (sym left) legal_after;
      mine = old.own;
      ours = new.own;
      adds = subst (λ (z : Past × Past). AddsOne z.0 z.1) (λ i. (before i, following i)) adds;
      did = subst (λ (z : Past × Past). does z.0 answer z.1) (λ i. (before i, following i)) did;
      stands = subst (λ (h : Chronicle). StandsIn (state_at after y.events) h.events) (sym left)
          (subst (λ (s : SessionState). StandsIn s new.seen.events) then stands);
    }

pub turned_adds : {A : Type 0} (place after : Place) (does : Past → A → Past → Type 0) (x y : Chronicle) (answer : A) → Turned place does x after answer y →
    AddsAtMostOne (entries_of x) (entries_of y)
turned_adds place after does x y answer t =
    adds_at_most_one x y t.legal t.legal_after t.mine t.ours (state_at place x.events) (state_at after y.events) t.adds
