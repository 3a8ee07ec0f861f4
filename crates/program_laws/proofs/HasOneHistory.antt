-- Bytes and words have one history.
use Rattle.std.proofs.Common.{◌≡◌, inl, inr, ◌⊎◌, false, ℕ, List, [], ◌∷◌, ◌++◌, length, refl, sym, ◌∙◌, ap, subst}
use Rattle.cell_base.specs.declared.cell.Cell.{Cell}
use Rattle.cell_base.specs.declared.value.Value.{Value}
use Rattle.cell_base.specs.declared.level.Level.{Level}
use Rattle.history_core.specs.Chronicle.{Chronicle, IsLegalChronicle}
use Rattle.block_machine.specs.Knowledge.{at_start}
use Rattle.block_machine.specs.Script.{Said}
use Rattle.block_machine.specs.declared.end.End.{End}
use Rattle.session_core.specs.declared.phase.Phase.TheVariants as phases
use Rattle.session_core.specs.Told.{told, session}
use Rattle.session_core.proofs.ValidRecords.{own_events}
use Rattle.choice_stream.specs.Choices.{DrawsFirst}
use Rattle.program_laws.specs.OneHistory.{Served, OneHistory, WantsMore, no_past}
use Rattle.program_laws.proofs.Rides.{IsLast, Rides, IsNear, Agree}
use Rattle.program_laws.proofs.RequestStreams.{IsSpared, sessions_agree}

abbrev nothing_said : Said
nothing_said = record { bytes = []; calls = [] }

last_of : (level : Level) (initial : List (Cell × Value)) (taken words : List ℕ) (history : Chronicle) (left sent : List ℕ) (end : End) →
    (s : Served level initial taken words history left sent end) → IsLast s.past
last_of level initial taken words history left sent end s = record {
  legal = subst (λ (h : Chronicle). IsLegalChronicle h) (sym s.history_is) s.legal;
  alone =
      ap (λ (h : Chronicle). length h.events) s.history_is ∙ ap length s.alone
      ∙ sym (ap length (own_events DrawsFirst (no_past level initial) words s.asked s.es s.past left s.valid));
}

-- a session that was served rode over its whole script
rides_of : (level : Level) (initial : List (Cell × Value)) (taken words : List ℕ) (history : Chronicle) (left sent : List ℕ) (end : End) →
    (s : Served level initial taken words history left sent end) →
    Rides (session phases.Startup (at_start level) s.requests) nothing_said s.es (no_past level initial) words (record { bytes = sent; calls = s.asked }) end s.past left
unfolding told
rides_of level initial taken words history left sent end s = record {
  goes = record { is = s.told_is; at_rest = s.at_rest; written = s.written };
  calls = s.asked;
  asked = refl;
  valid = s.valid;
  alone = refl;
  last = last_of level initial taken words history left sent end s;
}

-- an end that is let off is one that wanted the bytes that follow
not_spared : (more : List ℕ) (end : End) → (more ≡ []) ⊎ (¬ (WantsMore end)) → IsSpared more end → ⊥
not_spared [] end either spared = spared
not_spared (x ∷ xs) end (inl none) spared = let both : x ∷ xs ≡ [] = none in cc
not_spared (x ∷ xs) end (inr never) spared = never spared

pub one_history : OneHistory
one_history level initial taken more words first second left right sent told one other a b either =
    let agree : Agree (IsSpared more) (session phases.Startup (at_start level) a.requests) (session phases.Startup (at_start level) b.requests) =
    sessions_agree more phases.Startup (at_start level) false taken a.requests b.requests a.requests_are b.requests_are in
    let near : IsNear (no_past level initial) (no_past level initial) a.past b.past = record { level = refl; initial = refl; events = refl; state = refl; tables = refl } in
    let rode = agree.same nothing_said a.es b.es (no_past level initial) (no_past level initial) words (record { bytes = sent; calls = a.asked })
    (record { bytes = told; calls = b.asked }) one other a.past b.past left right
    (rides_of level initial taken words first left sent one a) (rides_of level initial (taken ++ more) words second right told other b) near in
    elim rode [
      | inl spared ↦ absurd (not_spared more one either spared)
      | inr same ↦ (sym a.history_is ∙ same.history ∙ b.history_is, same.words, same.alike)
    ]
