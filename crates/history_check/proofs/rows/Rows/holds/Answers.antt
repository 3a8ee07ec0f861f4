use Rattle.history_check.proofs.RowLemmas.{value_there, there_value}
use Rattle.history_check.proofs.rows.Rows.holds.Goals as goal

pub returns : goal.returns
returns c =
    let exact = rw c.writers_at.ensures at c.any_value.ensures in (
      λ h. rw (← c.self.view_is) (value_there c.self.inside.cells.now c.self.inside.places c.args.cell.now c.args.value.now c.self.invariant.0 (exact.0 h)),
      λ has. exact.1 (there_value c.self.inside.cells.now c.self.inside.places c.args.cell.now c.args.value.now c.self.invariant.0 (rw (← c.self.view_is) at has)),
    )
