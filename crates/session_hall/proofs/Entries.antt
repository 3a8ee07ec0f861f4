-- What entries that no call made leave.
use Rattle.std.proofs.Common.{◌≡◌, ℕ, List, [], ◌∷◌, ◌++◌, refl, ap, Option}
use Rattle.std.specs.Prelude.{All}
use Rattle.std.proofs.lemmas.List.Elements.{All-nil, All-cons}
use Rattle.choice_stream.specs.Choices.{DrawsFirst}
use Rattle.history_core.specs.declared.event.Event.{Event}
use Rattle.block_machine.specs.declared.end.End.{End}
use Rattle.block_machine.specs.declared.end.Stop.TheVariants as stops
use Rattle.block_machine.specs.Calls.{Call}
use Rattle.block_machine.specs.Script.{Entry, did, refused, short, unsent, stop}
use Rattle.history_book.specs.Book.{Past}
use Rattle.session_core.specs.Told.{opened_from}
use Rattle.session_core.specs.Record.{IsValidRecord, events_of}
use Rattle.session_core.specs.Steps.{IsShort}
use Rattle.session_core.proofs.ValidRecords.{IsValidRecord-quiet, IsValidRecord-short}
use Rattle.session_hall.specs.Seats.{IsFrom}

pub events-append : (xs ys : List Entry) → events_of (xs ++ ys) ≡ events_of xs ++ events_of ys
events-append [] ys = refl
events-append (did a e ∷ xs) ys = ap (λ (es : List Event). e ∷ es) (events-append xs ys)
events-append (refused why ∷ xs) ys = events-append xs ys
events-append (short final k ∷ xs) ys = events-append xs ys
events-append (unsent k ∷ xs) ys = events-append xs ys
events-append (stop cause ∷ xs) ys = events-append xs ys

-- entries that no call made: a lack of memory of the session's own, a reply that wasn't sent, or a stop
pub record IsAlone (added : List Entry) : Type 0 where
  pub no_events : events_of added ≡ []
  pub same_number : (n : Option ℕ) → opened_from n added ≡ n
  pub stays_valid : (p : Past) (v : List ℕ) (cs : List Call) (es : List Entry) (q : Past) (w : List ℕ) →
      IsValidRecord DrawsFirst p v cs es q w → IsValidRecord DrawsFirst p v cs (es ++ added) q w

pub alone_short : (sent : List ℕ) (added : List Entry) → IsShort sent added → IsAlone added
alone_short sent [] i = record {
  no_events = refl;
  same_number = λ n. refl;
  stays_valid = λ p v cs es q w. IsValidRecord-short DrawsFirst p v cs es q w sent [] i;
}
alone_short sent (short final n ∷ []) i = record {
  no_events = refl;
  same_number = λ k. refl;
  stays_valid = λ p v cs es q w. IsValidRecord-short DrawsFirst p v cs es q w sent (short final n ∷ []) i;
}
alone_short sent (short final n ∷ x ∷ xs) i = absurd i
alone_short sent (did a x ∷ xs) i = absurd i
alone_short sent (refused why ∷ xs) i = absurd i
alone_short sent (unsent n ∷ xs) i = absurd i
alone_short sent (stop cause ∷ xs) i = absurd i

pub alone_unsent : (n : ℕ) → IsAlone (unsent n ∷ [])
alone_unsent n = record {
  no_events = refl;
  same_number = λ k. refl;
  stays_valid = λ p v cs es q w. IsValidRecord-quiet DrawsFirst p v cs es q w (unsent n) tt;
}

pub alone_stop : IsAlone (stop stops.EndOfInput ∷ [])
alone_stop = record {
  no_events = refl;
  same_number = λ k. refl;
  stays_valid = λ p v cs es q w. IsValidRecord-quiet DrawsFirst p v cs es q w (stop stops.EndOfInput) tt;
}

-- a lack of memory needs no cause
pub short_from : (stream taken sent : List ℕ) (laid : Option End) (added : List Entry) → IsShort sent added → All (IsFrom stream taken laid) added
short_from stream taken sent laid [] i = All-nil (IsFrom stream taken laid)
short_from stream taken sent laid (short final n ∷ []) i =
    All-cons (IsFrom stream taken laid) (short final n) [] tt (All-nil (IsFrom stream taken laid))
short_from stream taken sent laid (short final n ∷ x ∷ xs) i = absurd i
short_from stream taken sent laid (did a x ∷ xs) i = absurd i
short_from stream taken sent laid (refused why ∷ xs) i = absurd i
short_from stream taken sent laid (unsent n ∷ xs) i = absurd i
short_from stream taken sent laid (stop cause ∷ xs) i = absurd i
