-- Visits one after another.
use Rattle.std.proofs.Common.{◌≡◌, ℕ, List, [], ◌∷◌, ◌++◌, sym, ◌∙◌, ap, subst}
use Rattle.std.proofs.lemmas.List.{append-nil, append_assoc}
use Rattle.cell_base.specs.declared.level.Level.{Level}
use Rattle.history_book.specs.Book.{Past}
use Rattle.session_core.specs.Record.{events_of}
use Rattle.door_workers.specs.Visits.{Visit, AreVisits, events_of_visits}

-- visits, and then further ones
pub visits_joined : {W : Type 0} (gives : W → ℕ → W → Type 0) (level : Level) (p : Past) (w : W) (xs ys : List Visit) (m : Past) (u : W)
    (q : Past) (v : W) →
    AreVisits gives level p w xs m u → AreVisits gives level m u ys q v → AreVisits gives level p w (xs ++ ys) q v
visits_joined {W} gives level p w [] ys m u q v first second =
    subst (λ (x : Past). AreVisits gives level x w ys q v) first.0
    (subst (λ (x : W). AreVisits gives level m x ys q v) first.1 second)
visits_joined gives level p w (x ∷ xs) ys m u q v first second =
    (first.0, first.1, first.2, first.3, visits_joined gives level first.0 first.1 xs ys m u q v first.4 second)

-- the events that the book made its own are those of the visits
pub own_of_visits : {W : Type 0} (gives : W → ℕ → W → Type 0) (level : Level) (p : Past) (w : W) (xs : List Visit) (q : Past) (v : W) →
    AreVisits gives level p w xs q v → q.own ≡ p.own ++ events_of_visits xs
own_of_visits gives level p w [] q v visits = ap (λ (x : Past). x.own) visits.0 ∙ sym (append-nil p.own)
own_of_visits gives level p w (x ∷ xs) q v visits =
    own_of_visits gives level visits.0 visits.1 xs q v visits.4 ∙ ap (λ es. es ++ events_of_visits xs) visits.2.own
    ∙ append_assoc p.own (events_of x.account.entries) (events_of_visits xs)
