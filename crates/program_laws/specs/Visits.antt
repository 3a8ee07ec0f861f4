-- What becomes of the links that a worker serves one after another.
use Rattle.std.specs.Prelude.{ℕ, List, [], ◌∷◌}
use Rattle.cell_base.specs.declared.level.Level.{Level}
use Rattle.history_book.specs.Book.{Past}
use Rattle.session_core.specs.Serve.{scene_of}
use Rattle.door_workers.specs.Visits.{Visit, AreVisits}
use Rattle.session_laws.specs.Sessions.{IsComplete}

-- the session of each of these links is complete
abbrev pub AreComplete : {W : Type 0} → (gives : W → ℕ → W → Type 0) (level : Level) (past : Past) (words : W) (visits : List Visit) (left : Past)
    (left_words : W) → AreVisits gives level past words visits left left_words → Type 0
AreComplete gives level past words [] left left_words are = Unit {0}
AreComplete gives level past words (visit ∷ visits) left left_words are =
    IsComplete gives level (scene_of past words visit.came) visit.outcome (scene_of are.0 are.1 visit.went) visit.account are.2
    × AreComplete gives level are.0 are.1 visits left left_words are.4

abbrev pub VisitsAreComplete : {W : Type 0} → (W → ℕ → W → Type 0) → Type 0
VisitsAreComplete {W} gives =
    (level : Level) (past : Past) (words : W) (visits : List Visit) (left : Past) (left_words : W)
    → (are : AreVisits gives level past words visits left left_words) → AreComplete gives level past words visits left left_words are
