-- The links that a worker serves one after another are complete, each as one that is served alone.
use Rattle.std.proofs.Common.{List, [], ◌∷◌}
use Rattle.cell_base.specs.declared.level.Level.{Level}
use Rattle.history_book.specs.Book.{Past}
use Rattle.session_core.specs.Serve.{scene_of}
use Rattle.door_workers.specs.Visits.{Visit, AreVisits}
use Rattle.session_laws.proofs.Complete.{complete}
use Rattle.program_laws.specs.Visits.{AreComplete}
use Rattle.std.proofs.Common.{ℕ}

pub are_complete : {W : Type 0} → (gives : W → ℕ → W → Type 0) (level : Level) (past : Past) (words : W) (visits : List Visit) (left : Past) (left_words : W)
    → (are : AreVisits gives level past words visits left left_words) → AreComplete gives level past words visits left left_words are
are_complete {W} gives level past words [] left left_words are = tt
are_complete {W} gives level past words (visit ∷ visits) left left_words are = (
  complete gives level (scene_of past words visit.came) visit.outcome (scene_of are.0 are.1 visit.went) visit.account are.2,
  are_complete gives level are.0 are.1 visits left left_words are.4,
)
