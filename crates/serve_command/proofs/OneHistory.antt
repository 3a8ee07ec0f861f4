-- The records of all links hold one history.
use Rattle.std.proofs.Common.{◌≡◌, ℕ, ◌<◌, ◌≤◌, suc, List, [], ◌∷◌, ◌++◌, map, All, Any, refl, sym, ap, ◌∙◌, subst}
use Rattle.std.proofs.lemmas.List.Elements.{All-nil, All-append}
use Rattle.cell_base.specs.declared.level.Level.{Level}
use Rattle.choice_stream.specs.Seeds.{Draws, stream_front}
use Rattle.history_core.specs.declared.event.Event.{Event}
use Rattle.history_core.specs.Events.{session_in, opened}
use Rattle.history_core.specs.Chronicle.{Chronicle, own_events}
use Rattle.shared_book.specs.Finish.{Finished, HasEventOf}
use Rattle.doors.specs.Passage.{Passage}
use Rattle.door_workers.specs.Visits.{Visit, events_of_visits}
use Rattle.serve_command.specs.Parts.{Part, AreParts, begins_with, record_of, records_of}
use Rattle.serve_command.proofs.Somewhere.{any_from_contains, contains_from_any, joined, joined_any, any_joined, joined_at}
use Rattle.serve_command.proofs.OwnEvents.{has_same}
use Rattle.serve_command.proofs.OneOpening.{opened_once, session_positive}
use Rattle.serve_command.proofs.Opens.{OpensItsSessions, visits_open}
use Rattle.serve_command.proofs.Joined.{joined_append, has_at, alone, one_place, together}

-- the events of a pass that made none, and those of each worker
abbrev lists_made : List Part → List (List Event)
lists_made parts = [] ∷ map (λ part. events_of_visits part.visits) parts

records_open : (level : Level) (start history : Chronicle) (seed most stream : ℕ) (befores : List Passage) (parts : List Part) (afters : List Passage) →
    AreParts level start history seed most stream befores parts afters → All OpensItsSessions (records_of parts)
records_open level start history seed most stream [] [] [] are = All-nil OpensItsSessions
records_open level start history seed most stream (before ∷ befores) (part ∷ parts) (after ∷ afters) are =
    All-append OpensItsSessions (map record_of part.visits) (records_of parts)
    (visits_open Draws level (begins_with start) (stream_front seed stream) part.visits are.0.past are.0.words refl are.0.are_visits)
    (records_open level start history seed most (suc stream) befores parts afters are.1)
records_open level start history seed most stream [] [] (after ∷ afters) are = absurd are
records_open level start history seed most stream [] (part ∷ parts) afters are = absurd are
records_open level start history seed most stream (before ∷ befores) [] afters are = absurd are
records_open level start history seed most stream (before ∷ befores) (part ∷ parts) [] are = absurd are

joined_visits : (visits : List Visit) → joined (map record_of visits) ≡ events_of_visits visits
joined_visits [] = refl
joined_visits (visit ∷ visits) = ap (λ (rest : List Event). record_of visit ++ rest) (joined_visits visits)

joined_records : (parts : List Part) → joined (records_of parts) ≡ joined (map (λ part. events_of_visits part.visits) parts)
joined_records [] = refl
joined_records (part ∷ parts) =
    joined_append (map record_of part.visits) (records_of parts)
    ∙ ap (λ (front : List Event). front ++ joined (records_of parts)) (joined_visits part.visits)
    ∙ ap (λ (back : List Event). events_of_visits part.visits ++ back) (joined_records parts)

-- what is known of a session that a record has an event of
record IsOfRecords (history : Chronicle) (parts : List Part) (s : ℕ) : Type 0 where
  above : 0 < s
  same : own_events history.events s ≡ own_events (joined (records_of parts)) s
  once : opened (own_events (joined (records_of parts)) s) ≤ 1

of_records : (start : Chronicle) (parts : List Part) (history : Chronicle) (s : ℕ) → Finished start (lists_made parts) history →
    HasEventOf s (joined (records_of parts)) → IsOfRecords history parts s
of_records start parts history s finished has =
    let is = sym (joined_records parts) in
    let in_lists : HasEventOf s (joined (lists_made parts)) = subst (HasEventOf s) (joined_records parts) has in
    let all = together (lists_made parts) history.events s finished.whole finished.apart in_lists in
    let same = all ∙ ap (λ (events : List Event). own_events events s) is in
    let once = opened_once history.initial history.events s finished.legal.legal.formed in
    record {
      above = session_positive history.initial history.events s finished.legal.legal.formed
          (has_same history.events (joined (records_of parts)) s same has);
      same = same;
      once = subst (λ (n : ℕ). n ≤ 1) (ap opened same) once;
    }

pub one_history :
    (start : Chronicle) (level : Level) (seed most stream : ℕ) (befores afters : List Passage) (parts : List Part) (history : Chronicle) →
    AreParts level start history seed most stream befores parts afters →
    Finished start ([] ∷ map (λ part. events_of_visits part.visits) parts) history →
    Finished start (records_of parts) history
one_history start level seed most stream befores afters parts history are finished = record {
  legal = finished.legal;
  level = finished.level;
  initial = finished.initial;
  added = finished.added;
  events = finished.events;
  more = finished.more;
  tables = finished.tables;
  whole = λ k d within s has.
      let of = of_records start parts history s finished (joined_at (λ (e : Event). session_in e ≡ s) (records_of parts) k d within has) in
      of.same ∙ alone (records_of parts) s opens of.above of.once k d within has;
  held = λ e added.
      let some = finished.held e added in
      let at = joined_any (λ x. x ≡ e) (lists_made parts) (some.0, some.1, some.2, some.3, any_from_contains some.1 e some.4) in
      let found = any_joined (λ x. x ≡ e) (records_of parts) (subst (Any (λ x. x ≡ e)) (sym (joined_records parts)) at) in
      (found.0, found.1, found.2, found.3, contains_from_any found.1 e found.4);
  apart = λ i j s one other is_one is_other has_one has_other.
      let of = of_records start parts history s finished (has_at (records_of parts) s i one is_one has_one) in
      one_place (records_of parts) s opens of.above of.once i j one other is_one is_other has_one has_other;
  start_is_free = λ s has some.
      finished.start_is_free s has
      (any_joined (λ (e : Event). session_in e ≡ s) (lists_made parts)
      (subst (HasEventOf s) (joined_records parts) (joined_any (λ (e : Event). session_in e ≡ s) (records_of parts) some)));
}
  where
    opens : All OpensItsSessions (records_of parts)
    opens = records_open level start history seed most stream befores parts afters are
