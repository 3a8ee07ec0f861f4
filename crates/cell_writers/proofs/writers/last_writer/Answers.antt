use Rattle.std.proofs.Common.{List, ℕ, ◌≤◌, subst}
use Rattle.std.specs.Prelude.{IfNone}
use Rattle.std.specs.List.{Contains}
use Rattle.cell_writers.proofs.writers.last_writer.Goals as goal

pub returns-clause-none : goal.returns-clause-none
returns-clause-none c =
    subst (λ (ns : List ℕ). IfNone c.last_up_to.result ((other : ℕ) → Contains ns other → other ≤ c.args.limit → ⊥)) c.writers_at.ensures c.last_up_to.ensures.none
