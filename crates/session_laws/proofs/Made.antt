-- Sessions that were told what a session is told keep the rows of their history whole.
use Rattle.std.proofs.Common.{◌≡◌, inl, inr, ◌⊎◌, ℕ, List, [], sym, subst}
use Rattle.history_core.specs.declared.event.Event.{Event}
use Rattle.history_core.specs.Chronicle.{Chronicle, own_events}
use Rattle.session_laws.specs.Alone.{KeepsRowsAlone}
use Rattle.session_laws.specs.Made.{IsMade}
use Rattle.session_laws.proofs.Records.{told_keeps}

pub made_alone : {W : Type 0} (gives : W → ℕ → W → Type 0) (history : Chronicle) (session : ℕ) → (own_events history.events session ≡ []) ⊎ IsMade gives history session →
    KeepsRowsAlone history.tables (own_events history.events session)
made_alone gives history session (inl none) = subst (λ (es : List Event). KeepsRowsAlone history.tables es) (sym none) tt
made_alone gives history session (inr made) =
    subst (λ (es : List Event). KeepsRowsAlone history.tables es) (sym made.events)
    (told_keeps gives made.level made.requests made.said made.next made.entries made.before made.words made.after made.left history.tables made.told_is
    made.valid made.tables)
