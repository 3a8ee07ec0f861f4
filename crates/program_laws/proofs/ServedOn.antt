-- Each link of a server was served on a book of its one history.
use Rattle.std.proofs.Common.{◌≡◌, ℕ, suc, List, [], ◌∷◌, ◌++◌, map, All, Option, refl, sym, ap, ◌∙◌, subst}
use Rattle.std.proofs.lemmas.List.{map-append}
use Rattle.std.proofs.lemmas.List.Elements.{All-nil, All-cons, All-append}
use Rattle.cell_base.specs.declared.level.Level.{Level}
use Rattle.rand_chacha.specs.ChaCha.{ChaCha}
use Rattle.choice_stream.specs.Seeds.{Draws, stream_front}
use Rattle.history_core.specs.declared.event.Event.{Event}
use Rattle.history_book.specs.Book.{Past}
use Rattle.history_core.specs.Chronicle.{Chronicle}
use Rattle.session_core.specs.Serve.{Serves, scene_of}
use Rattle.doors.specs.Passage.{Passage}
use Rattle.door_workers.specs.Visits.{Visit, AreVisits}
use Rattle.serve_command.specs.Earlier.{BeginsAs}
use Rattle.serve_command.specs.Parts.{Part, AreParts, begins_with, record_of, records_of}
use Rattle.serve_command.proofs.Earlier.{begins_as, before_visits}
use Rattle.session_laws.specs.Openings.{AreOfOneSession}
use Rattle.session_laws.proofs.OneOpening.{one_session}
use Rattle.session_laws.specs.Alone.{KeepsRowsAlone}
use Rattle.session_laws.proofs.Records.{told_keeps}
use Rattle.program_laws.specs.ServedSessions.{links_of}

-- the link was served on a book, and what that saw then is the beginning of the history
pub record IsServedOn (level : Level) (history : Chronicle) (link : Visit) : Type 0 where
  pub past : Past
  pub words : ChaCha
  pub next_past : Past
  pub next_words : ChaCha
  pub serves : Serves Draws level (scene_of past words link.came) link.outcome (scene_of next_past next_words link.went) link.account
  pub begins : BeginsAs next_past.seen history

visits_on : (level : Level) (history : Chronicle) (past : Past) (words : ChaCha) (visits : List Visit) (left : Past) (left_words : ChaCha) →
    AreVisits Draws level past words visits left left_words → BeginsAs left.seen history → All (IsServedOn level history) visits
visits_on level history past words [] left left_words are begins = All-nil (IsServedOn level history)
visits_on level history past words (visit ∷ visits) left left_words are begins =
    All-cons (IsServedOn level history) visit visits (record {
      past = past;
      words = words;
      next_past = are.0;
      next_words = are.1;
      serves = are.2;
      begins = before_visits Draws history level are.0 left are.1 left_words visits are.4 begins;
    })
    (visits_on level history are.0 are.1 visits left left_words are.4 begins)

pub links_on : (level : Level) (start history : Chronicle) (seed most stream : ℕ) (befores : List Passage) (parts : List Part) (afters : List Passage) →
    AreParts level start history seed most stream befores parts afters → All (IsServedOn level history) (links_of parts)
links_on level start history seed most stream [] [] [] are = All-nil (IsServedOn level history)
links_on level start history seed most stream (before ∷ befores) (part ∷ parts) (after ∷ afters) are =
    All-append (IsServedOn level history) part.visits (links_of parts)
    (visits_on level history (begins_with start) (stream_front seed stream) part.visits are.0.past are.0.words are.0.are_visits
    (begins_as are.0.past.seen history are.0.saw))
    (links_on level start history seed most (suc stream) befores parts afters are.1)
links_on level start history seed most stream [] [] (after ∷ afters) are = absurd are
links_on level start history seed most stream [] (part ∷ parts) afters are = absurd are
links_on level start history seed most stream (before ∷ befores) [] afters are = absurd are
links_on level start history seed most stream (before ∷ befores) (part ∷ parts) [] are = absurd are

-- their records, worker by worker
pub records_are : (parts : List Part) → records_of parts ≡ map record_of (links_of parts)
records_are [] = refl
records_are (part ∷ parts) =
    ap (λ (rest : List (List Event)). map record_of part.visits ++ rest) (records_are parts)
    ∙ sym (map-append record_of part.visits (links_of parts))

-- the record is of the one session that the outcome names, or of none
pub one_of : (level : Level) (history : Chronicle) (link : Visit) → IsServedOn level history link → AreOfOneSession link.outcome.session (record_of link)
one_of level history link on =
    subst (λ (number : Option ℕ). AreOfOneSession number (record_of link)) (sym on.serves.opened)
    (one_session Draws level on.serves.requests _ _ link.account.entries on.past on.words on.next_past on.next_words on.serves.told_is on.serves.valid)

-- the record keeps the rows of the history's tables whole
pub keeps_of : (level : Level) (history : Chronicle) (link : Visit) → IsServedOn level history link → KeepsRowsAlone history.tables (record_of link)
keeps_of level history link on =
    told_keeps Draws level on.serves.requests _ _ link.account.entries on.past on.words on.next_past on.next_words history.tables on.serves.told_is
    on.serves.valid (record { more = on.begins.more; whole = on.begins.tables })
