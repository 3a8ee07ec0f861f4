-- What keeps a store.
use Rattle.std.proofs.Common.{true, false, ◌≡◌, List, [], ◌∷◌, ◌++◌, refl, ap, sym, ◌∙◌, subst}
use Rattle.history_core.specs.declared.event.Event.{Event}
use Rattle.history_core.specs.declared.event.Event.TheVariants.{Open, Close, Define, Look, Begin, Scan, Read, Own, Write, Commit, Rollback, Show}
use Rattle.history_core.specs.Events.{opened, is_open_event}
use Rattle.history_core.specs.Records.{IsNoDefinition, is_any_end}
use Rattle.history_core.specs.Legal.{Follows, IsOffered}
use Rattle.history_core.specs.Chronicle.{IsLegalChronicle}
use Rattle.history_core.proofs.SessionLemmas.{opened-push_other}
use Rattle.indexed_history.specs.Writers.{IsPlain}
use Rattle.forced_rows.specs.declared.rows.ForcedRows.{ForcedRows}
use Rattle.forced_rows.specs.Rows.{AreRowsOf}
use Rattle.forced_rows.proofs.Keeping.{rows_still}
use Rattle.further_reads.specs.Begun.{ForcesNothing}
use Rattle.valid_writes.specs.declared.kept.Kept.{Kept}
use Rattle.valid_writes.specs.Store.{IsStore, IsStill}

-- what a still event is
pub record IsResting (e : Event) : Type 0 where
  pub plain : IsPlain e
  pub forces_none : ForcesNothing e
  pub no_definition : IsNoDefinition e
  pub opens_none : is_open_event e ≡ false
  pub offered : (events : List Event) → IsOffered events e

pub resting : (e : Event) → IsStill e → IsResting e
resting (Look s count) still = record { plain = tt; forces_none = tt; no_definition = tt; opens_none = refl; offered = λ events. tt }
resting (Scan s table keys) still = record { plain = tt; forces_none = tt; no_definition = tt; opens_none = refl; offered = λ events. tt }
resting (Own s x v) still = record { plain = tt; forces_none = tt; no_definition = tt; opens_none = refl; offered = λ events. tt }
resting (Show s number) still = record { plain = tt; forces_none = tt; no_definition = tt; opens_none = refl; offered = λ events. tt }
resting (Open s) still = absurd still
resting (Close s) still = absurd still
resting (Define s name) still = absurd still
resting (Begin s level) still = absurd still
resting (Read s cell source n u v) still = absurd still
resting (Write s x v) still = absurd still
resting (Commit s) still = absurd still
resting (Rollback s) still = absurd still

pub end_forces_none : (e : Event) → is_any_end e ≡ true → ForcesNothing e
end_forces_none (Close s) is = tt
end_forces_none (Commit s) is = tt
end_forces_none (Rollback s) is = tt
end_forces_none (Open s) is = cc
end_forces_none (Define s name) is = cc
end_forces_none (Look s count) is = cc
end_forces_none (Begin s level) is = cc
end_forces_none (Scan s table keys) is = cc
end_forces_none (Read s cell source n u v) is = cc
end_forces_none (Own s x v) is = cc
end_forces_none (Write s x v) is = cc
end_forces_none (Show s number) is = cc

pub end_opens_none : (e : Event) → is_any_end e ≡ true → is_open_event e ≡ false
end_opens_none (Close s) is = refl
end_opens_none (Commit s) is = refl
end_opens_none (Rollback s) is = refl
end_opens_none (Open s) is = cc
end_opens_none (Define s name) is = cc
end_opens_none (Look s count) is = cc
end_opens_none (Begin s level) is = cc
end_opens_none (Scan s table keys) is = cc
end_opens_none (Read s cell source n u v) is = cc
end_opens_none (Own s x v) is = cc
end_opens_none (Write s x v) is = cc
end_opens_none (Show s number) is = cc

-- a store goes on with an event that forces nothing
pub store_still :
    (old new : Kept) (e : Event) → IsStore old → Follows old.history.initial old.history.events e → ForcesNothing e → is_open_event e ≡ false →
    new.history.events ≡ old.history.events ++ e ∷ [] → new.rows ≡ old.rows → new.sessions ≡ old.sessions → IsLegalChronicle new.history → IsStore new
store_still old new e was follows none opens_none grown rows sessions legal = record {
  legal = legal;
  rows = subst (λ (es : List Event). AreRowsOf es new.rows) (sym grown)
      (subst (λ (r : ForcedRows). AreRowsOf (old.history.events ++ e ∷ []) r) (sym rows)
      (rows_still old.history.initial old.history.events e old.rows was.legal.legal.formed follows none was.rows));
  count = sessions ∙ was.count ∙ sym (ap opened grown ∙ opened-push_other old.history.events e opens_none);
}
