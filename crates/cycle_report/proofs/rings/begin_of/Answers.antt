use Rattle.std.proofs.Common.{refl}
use Rattle.cycle_report.proofs.rings.begin_of.Goals as goal

pub returns : goal.returns
returns c = record { edge = c.edge_at-edge.result; is = c.edge_at-edge.ensures; number_is = refl }
