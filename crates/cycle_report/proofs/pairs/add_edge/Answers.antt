use Rattle.std.proofs.Common.{refl}
use Rattle.saturation.proofs.Adds.{adds_one}
use Rattle.cycle_report.proofs.pairs.add_edge.Goals as goal

pub returns : goal.returns
returns c = rw c.in_ok-push.ensures.items (adds_one c.args.edges.now.items _ c.args.before c.args.after refl refl)
