use Rattle.std.proofs.Common.{◌∙◌}
use Rattle.history_core.proofs.TablesFew.{tables_few}
use Rattle.history_core.proofs.history.History.tables.Goals as goal

pub returns-clause-few : goal.returns-clause-few
returns-clause-few c = rw c.as_slice.ensures.value (tables_few _ c.self.invariant.formed)
