-- One read more in what later reads see.
use Rattle.std.specs.Prelude.{◌≡◌, ◌<◌, ◌⊎◌, ◌↔◌, ℕ, Option, List, length}
use Rattle.history_core.specs.declared.txn.Seen.{Seen}
use Rattle.saturation.specs.Views.{number_of, source_of}
use Rattle.axiom_base.specs.Sights.{Sees}

-- later reads see the source of the read too
pub record Notes (old : List (Option ℕ)) (seen : Seen) (new : List (Option ℕ)) : Type 0 where
  pub size : length new ≡ length old
  pub exact : (number writer : ℕ) → Sees new number writer ↔ (Sees old number writer ⊎ ((writer ≡ source_of seen) × (number_of seen < number)))
