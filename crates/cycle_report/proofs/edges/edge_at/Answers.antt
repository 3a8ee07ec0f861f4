use Rattle.std.proofs.lemmas.Option.{slice_get-get_or}
use Rattle.cycle_report.proofs.edges.edge_at.Goals as goal

pub returns : goal.returns
returns c = slice_get-get_or c.args.edges.now c.args.place _ c.requires
