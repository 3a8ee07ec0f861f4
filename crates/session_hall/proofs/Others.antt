-- Events of other sessions are none of a session's own.
use Rattle.std.proofs.Common.{◌≡◌, ◌≢◌, ℕ, List, [], ◌∷◌, ◌++◌, refl, sym, ◌∙◌, ap, append_assoc, Option, Some, None}
use Rattle.std.specs.Prelude.{All, IfSome}
use Rattle.std.proofs.lemmas.List.{append-nil}
use Rattle.std.proofs.lemmas.List.Elements.{All-head, All-tail}
use Rattle.std.proofs.lemmas.Bool.{ne_eqb}
use Rattle.history_core.specs.declared.event.Event.{Event}
use Rattle.history_core.specs.Events.{session_in}
use Rattle.history_core.specs.Chronicle.{own_events}
use Rattle.valid_writes.specs.Desk.{given_events}
use Rattle.valid_writes.proofs.Writes.{own_skip}

own_others : (s : ℕ) (events es : List Event) → All (λ (e : Event). session_in e ≢ s) es → own_events (events ++ es) s ≡ own_events events s
own_others s events [] others = ap (λ (x : List Event). own_events x s) (append-nil events)
own_others s events (e ∷ es) others =
    ap (λ (x : List Event). own_events x s) (sym (append_assoc events (e ∷ []) es))
    ∙ own_others s (events ++ e ∷ []) es (All-tail (λ (x : Event). session_in x ≢ s) e es others)
    ∙ own_skip events s e (ne_eqb (session_in e) s (All-head (λ (x : Event). session_in x ≢ s) e es others))

-- the events of a session that others add to
pub given_others : (number : Option ℕ) (events es : List Event) → IfSome number (λ s. All (λ (e : Event). session_in e ≢ s) es) →
    given_events number (events ++ es) ≡ given_events number events
given_others None events es others = refl
given_others (Some s) events es others = own_others s events es others

-- what no event of a list is
pub own_none : (s : ℕ) (events : List Event) → All (λ (e : Event). session_in e ≢ s) events → own_events events s ≡ []
own_none s events none = own_others s [] events none
