-- The messages taken from a stream piece by piece are those of the stream.
use Rattle.std.proofs.Common.{◌≡◌, ℕ, ◌+◌, ◌<◌, List, [], ◌∷◌, ◌++◌, length, take, refl, sym, ◌∙◌, ap, arith, subst, append_assoc, append-nil, get_or, Bool, false}
use Rattle.std.specs.Prelude.{flat_map, Option, None, Some}
use Rattle.std.proofs.lemmas.List.{take_more}
use Rattle.std.proofs.lemmas.List.Concat.{flat_map-append}
use Rattle.client_framing.specs.declared.frontend_message.FrontendMessage.{FrontendMessage}
use Rattle.client_framing.specs.declared.frontend_message.FrameFault.{FrameFault}
use Rattle.client_framing.specs.Spelling.{phase_after}
use Rattle.client_framing.specs.Fronts.{Held, TakesFront, Stream, IsStream, IsRead, grafted, end_of, phase_following, TakesFronts}
use Rattle.client_framing.specs.Reading.{SplitsInto, EndsWith}
use Rattle.client_framing.proofs.Openings.{no_length_yet}
use Rattle.client_framing.proofs.Streams.{stream_unique, stream_after, read_after}

phase_more : (started : Bool) (fs : List FrontendMessage) (f : FrontendMessage) → phase_following started (fs ++ f ∷ []) ≡ phase_after (phase_following started fs) f
phase_more started [] f = refl
phase_more started (g ∷ fs) f = phase_more (phase_after started g) fs f

-- one more message comes off
takes_more : (started : Bool) (bytes : List ℕ) (fs : List FrontendMessage) (f : FrontendMessage) (rest more : List ℕ) → TakesFronts started bytes fs rest → TakesFront (phase_following started fs) rest f more → TakesFronts started bytes (fs ++ f ∷ []) more
takes_more started bytes [] f rest more t h = (more, (let P : List ℕ → Type 0 = λ (x : List ℕ). TakesFront started x f more in subst P (sym t) h), refl)
takes_more started bytes (g ∷ fs) f rest more t h = (t.0, t.1, takes_more (phase_after started g) t.0 fs f rest more t.2 h)

-- more bytes come after
takes_fed : (started : Bool) (bytes piece : List ℕ) (fs : List FrontendMessage) (rest : List ℕ) → TakesFronts started bytes fs rest → TakesFronts started (bytes ++ piece) fs (rest ++ piece)
takes_fed started bytes piece [] rest t = ap (λ (x : List ℕ). x ++ piece) t
takes_fed started bytes piece (f ∷ fs) rest t = (
  t.0 ++ piece,
  record { taken = t.1.taken; spelled = t.1.spelled; whole = ap (λ (x : List ℕ). x ++ piece) t.1.whole ∙ append_assoc t.1.taken t.0 piece },
  takes_fed (phase_after started f) t.0 piece fs rest t.2,
)

-- one more message is taken
pub splits_more : (stream : List ℕ) (fs : List FrontendMessage) (f : FrontendMessage) (held new : Held) → SplitsInto stream fs held → TakesFront held.started held.rest f new.rest
    → new.started ≡ phase_after held.started f → SplitsInto stream (fs ++ f ∷ []) new
splits_more stream fs f held new s t phase = record {
  takes = takes_more false stream fs f held.rest new.rest s.takes (subst (λ (b : Bool). TakesFront b held.rest f new.rest) s.phase t);
  phase = phase ∙ (ap (λ (b : Bool). phase_after b f) s.phase ∙ sym (phase_more false fs f));
}

-- one more piece comes
pub splits_fed : (stream piece : List ℕ) (fs : List FrontendMessage) (held new : Held) → SplitsInto stream fs held → new ≡ record held { rest = held.rest ++ piece } → SplitsInto (stream ++ piece) fs new
splits_fed stream piece fs held new s e = rw e (record { takes = takes_fed false stream piece fs held.rest s.takes; phase = s.phase })

-- nothing has come
pub splits_nothing : (held : Held) → held ≡ record { started = false; rest = []; fault = None } → SplitsInto [] [] held × EndsWith held None
splits_nothing held e = rw e (record { takes = refl; phase = refl }, record { kept = refl; stands = no_length_yet [] (omega arith) })

-- what is read is the stream
pub is_read_so : (stream : List ℕ) (fs : List FrontendMessage) (held : Held) (fault : Option FrameFault) → SplitsInto stream fs held → EndsWith held fault → IsStream false stream (grafted fs (end_of held.rest fault))
is_read_so stream fs held fault s e = stream_after false stream fs held.rest (end_of held.rest fault) s.takes (subst (λ (b : Bool). IsStream b held.rest (end_of held.rest fault)) s.phase (ending fault e))
  where
    ending : (fault : Option FrameFault) → EndsWith held fault → IsStream held.started held.rest (end_of held.rest fault)
    ending None e = (refl, e.stands)
    ending (Some f) e = e.stands

-- and nothing else is
pub is_read_only : (stream : List ℕ) (fs : List FrontendMessage) (held : Held) (fault : Option FrameFault) (other : Stream) → SplitsInto stream fs held → EndsWith held fault → IsStream false stream other → IsRead other
    → other ≡ grafted fs (end_of held.rest fault)
is_read_only stream fs held fault other s e k r =
    stream_unique false stream other (grafted fs (end_of held.rest fault)) k (is_read_so stream fs held fault s e) r (read_after fs (end_of held.rest fault) (ending fault))
  where
    ending : (fault : Option FrameFault) → IsRead (end_of held.rest fault)
    ending None = tt
    ending (Some f) = tt

-- the pieces joined, one more and all
pub pieces_more : (pieces : List (List ℕ)) (i : ℕ) (piece : List ℕ) → i < length pieces → piece ≡ get_or pieces i piece
    → flat_map (λ (piece : List ℕ). piece) (take (i + 1) pieces) ≡ flat_map (λ (piece : List ℕ). piece) (take i pieces) ++ piece
pieces_more pieces i piece lt is =
    ap (λ (x : List (List ℕ)). flat_map (λ (piece : List ℕ). piece) x) (take_more pieces i piece lt)
    ∙ (flat_map-append (λ (piece : List ℕ). piece) (take i pieces) (get_or pieces i piece ∷ [])
    ∙ ap (λ (x : List ℕ). flat_map (λ (piece : List ℕ). piece) (take i pieces) ++ x) (append-nil (get_or pieces i piece) ∙ sym is))
