use Rattle.std.proofs.Common.{List, ◌++◌, ap, ◌∙◌}
use Rattle.graph_base.specs.declared.Edge.{Edge}
use Rattle.cycle_report.proofs.rings.joined.Goals as goal

pub returns : goal.returns
returns c = c.in_ok-extend_from_slice.ensures.items ∙ ap (λ (xs : List Edge). xs ++ c.args.second.now) c.in_ok-edges.ensures
