-- Each link is one session of its own in the history, or none.
use Rattle.std.proofs.Common.{◌≡◌, ℕ, List, [], ◌∷◌, ◌++◌, map, length, All, Any, Option, Some, None, slice_get, option_map, refl, sym, ap, ◌∙◌, subst, inl, inr}
use Rattle.std.specs.List.{Contains}
use Rattle.std.proofs.lemmas.List.Elements.{All-nil, All-cons, All-head, All-tail, All-contains}
use Rattle.std.proofs.lemmas.Option.{slice_get-map}
use Rattle.history_core.proofs.Prefixes.{Contains-from_slice_get}
use Rattle.cell_base.specs.declared.level.Level.{Level}
use Rattle.history_core.specs.declared.event.Event.{Event}
use Rattle.history_core.specs.declared.event.Event.TheVariants.{Open}
use Rattle.history_core.specs.Events.{session_in}
use Rattle.history_core.specs.Chronicle.{Chronicle, own_events}
use Rattle.shared_book.specs.Finish.{Finished, HasEventOf}
use Rattle.doors.specs.Passage.{Passage}
use Rattle.door_workers.specs.Visits.{Visit}
use Rattle.serve_command.specs.Parts.{Part, AreParts, record_of, records_of}
use Rattle.serve_command.proofs.Somewhere.{any_none, any_here, any_later, any_cases}
use Rattle.session_laws.specs.Openings.{BeginsWithOpening, AreOfOneSession}
use Rattle.session_laws.proofs.OwnEvents.{own_all, all_of_it}
use Rattle.program_laws.specs.ServedSessions.{links_of, IsItsSession, AreSessions}
use Rattle.program_laws.proofs.ServedOn.{IsServedOn, links_on, records_are, one_of}

-- ---- what is said of a list that a function makes

any_unmap : {X Y : Type 0} (P : Y → Type 0) (f : X → Y) (xs : List X) → Any P (map f xs) → Any (λ x. P (f x)) xs
any_unmap P f [] some = absurd (any_none P some)
any_unmap P f (x ∷ xs) some = elim (any_cases P (f x) (map f xs) some) [
  | inl here ↦ any_here (λ y. P (f y)) x xs here
  | inr later ↦ any_later (λ y. P (f y)) x xs (any_unmap P f xs later)
]

all_both : {X Y : Type 0} (P Q : X → Type 0) (R : Y → Type 0) (f : X → Y) → ((x : X) → P x → R (f x) → Q x) → (xs : List X) → All P xs →
    All R (map f xs) → All Q xs
all_both P Q R f holds [] ps rs = All-nil Q
all_both P Q R f holds (x ∷ xs) ps rs =
    All-cons Q x xs (holds x (All-head P x xs ps) (All-head R (f x) (map f xs) rs))
    (all_both P Q R f holds xs (All-tail P x xs ps) (All-tail R (f x) (map f xs) rs))

-- ---- one link

-- a record that begins with the opening of a session has an event of it
has_event : (session : ℕ) (own : List Event) → BeginsWithOpening session own → HasEventOf session own
has_event session own begins =
    subst (λ (es : List Event). HasEventOf session es) (sym begins.events_are) (any_here (λ e. session_in e ≡ session) (Open session) begins.later refl)

-- so has the record of a link whose outcome names it
pub named_event : (session : ℕ) (link : Visit) → AreOfOneSession link.outcome.session (record_of link) → link.outcome.session ≡ Some session →
    HasEventOf session (record_of link)
named_event session link one is =
    has_event session (record_of link) (subst (λ (number : Option ℕ). AreOfOneSession number (record_of link)) is one)

its_session : (events : List Event) (number : Option ℕ) (own : List Event) → AreOfOneSession number own →
    ((session : ℕ) → HasEventOf session own → own_events events session ≡ own_events own session) → IsItsSession events number own
its_session events None own none whole = none
its_session events (Some session) own begins whole = record {
  begins = begins;
  all = whole session (has_event session own begins) ∙ own_all own session (all_of_it session own begins);
}

-- ---- all links

abbrev IsOne : Visit → Type 0
IsOne link = AreOfOneSession link.outcome.session (record_of link)

no_name : (session : ℕ) (links : List Visit) → All IsOne links → (Any (HasEventOf session) (map record_of links) → ⊥) →
    All (λ link. link.outcome.session ≡ Some session → ⊥) links
no_name session [] ones none = All-nil (λ link. link.outcome.session ≡ Some session → ⊥)
no_name session (link ∷ links) ones none =
    All-cons (λ link. link.outcome.session ≡ Some session → ⊥) link links
    (λ is. none (any_here (HasEventOf session) (record_of link) (map record_of links) (named_event session link (All-head IsOne link links ones) is)))
    (no_name session links (All-tail IsOne link links ones) (λ some. none (any_later (HasEventOf session) (record_of link) (map record_of links) some)))

-- the link at a place is of one session, and its record stands at the same place
at_place : (links : List Visit) (i : ℕ) (link : Visit) → All IsOne links → slice_get links i ≡ Some link →
    IsOne link × (slice_get (map record_of links) i ≡ Some (record_of link))
at_place links i link ones is =
    (All-contains IsOne links link ones (Contains-from_slice_get links i link is), slice_get-map record_of links i ∙ ap (option_map record_of) is)

pub are_sessions : (level : Level) (start history : Chronicle) (seed most : ℕ) (befores : List Passage) (parts : List Part) (afters : List Passage) →
    AreParts level start history seed most 0 befores parts afters → Finished start (records_of parts) history →
    AreSessions (links_of parts) start history
are_sessions level start history seed most befores parts afters are finished_so = record {
  each = all_both IsOne (λ link. IsItsSession history.events link.outcome.session (record_of link)) Whole record_of
      (λ link one whole. its_session history.events link.outcome.session (record_of link) one whole) links ones finished.whole;
  apart = λ i j session one other is_one is_other names_one names_other.
      let first = at_place links i one ones is_one in
      let second = at_place links j other ones is_other in
      finished.apart i j session (record_of one) (record_of other) first.1 second.1 (named_event session one first.0 names_one)
      (named_event session other second.0 names_other);
  fresh = λ session has. no_name session links ones (finished.start_is_free session has);
  later = finished.added;
  events = finished.events;
  held = λ e added. any_unmap (λ own. Contains own e) record_of links (finished.held e added);
}
  where
    links : List Visit
    links = links_of parts

    finished : Finished start (map record_of links) history
    finished = subst (λ (lists : List (List Event)). Finished start lists history) (records_are parts) finished_so

    Whole : List Event → Type 0
    Whole own = (session : ℕ) → HasEventOf session own → own_events history.events session ≡ own_events own session

    ones : All IsOne links
    ones = λ k d within. one_of level history _ (links_on level start history seed most 0 befores parts afters are k d within)
