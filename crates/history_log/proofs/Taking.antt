-- What an event adds to a draft that was read with its line feed off the front of a text.
use Rattle.std.proofs.Common.{◌≡◌, ℕ, ◌+◌, ◌<◌, List, [], ◌∷◌, ◌++◌, length, length-append, arith, refl, ap, sym, subst}
use Rattle.history_core.specs.declared.event.Event.{Event}
use Rattle.history_log.specs.declared.draft.Draft.{Draft}
use Rattle.history_log.specs.declared.draft.Place.TheVariants.{Body}
use Rattle.history_log.specs.declared.version.Version.TheVariants.{Two}
use Rattle.history_log.specs.Spelling.{keyword_word, keyword_of, fields, event_line}
use Rattle.history_log.specs.Draft.{HasInitial, said}
use Rattle.history_log.specs.Leading.{IsLeading, IsReadTo}
use Rattle.history_log.proofs.LineKinds.{event_ink, event_cut}
use Rattle.history_log.proofs.Added.{event_added}
use Rattle.history_log.proofs.ByLine.{step_parts, step_count, step_room}
use Rattle.history_log.proofs.OneHistory.{line_lacks}

module _ (parts : List (List ℕ)) (d : Draft) (event : Event) (n : ℕ) (text rest : List ℕ) where
  event_read : IsReadTo parts d n text → d.place ≡ Body → HasInitial d.version d.trace.initial → IsLeading event text rest
      → IsReadTo parts (record d { trace = record d.trace { events = d.trace.events ++ event ∷ [] } }) (n + 1) rest
  event_read read body initial leading =
      let added = event_added d (keyword_of event) event (fields d.version event) (event_line d.version event) read.right body
      (initial, (leading.fits, leading.anywhere d.version d.trace.level, refl, refl)) (event_cut d.version event leading.fits) in
      record {
        right = added.0;
        cut = step_parts parts (said d) (said (record d { trace = record d.trace { events = d.trace.events ++ event ∷ [] } })) text (event_line d.version event) rest read.cut (leading.line d.version)
            (line_lacks (keyword_word (keyword_of event) ∷ fields d.version event) (event_ink d.version event leading.fits)) added.1;
        count = step_count (said d) (said (record d { trace = record d.trace { events = d.trace.events ++ event ∷ [] } })) (event_line d.version event) n read.count added.1;
        room = (step_room text (event_line d.version event) rest n (leading.line d.version) read.room).0;
      }

  pub event_taken : (events : List Event) → events ≡ d.trace.events ++ event ∷ [] → IsReadTo parts d n text → d.place ≡ Body → HasInitial d.version d.trace.initial → IsLeading event text rest
      → IsReadTo parts (record d { trace = record d.trace { events = events } }) (n + 1) rest
  event_taken events pushed read body initial leading =
      subst (λ (es : List Event). IsReadTo parts (record d { trace = record d.trace { events = es } }) (n + 1) rest) (sym pushed) (event_read read body initial leading)

shorter : (text before rest : List ℕ) → text ≡ before ++ 10 ∷ rest → length rest < length text
shorter text before rest is = let h = ap length is in let l = length-append before (10 ∷ rest) in omega (arith, h, l)

pub leading_shorter : (event : Event) (text rest : List ℕ) → IsLeading event text rest → length rest < length text
leading_shorter event text rest leading = shorter text (event_line Two event) rest (leading.line Two)
