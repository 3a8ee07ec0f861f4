use Rattle.std.proofs.Common.{◌≡◌, ◌∙◌, subst, List}
use Rattle.graph_base.specs.declared.Edge.{Edge}
use Rattle.saturation.specs.Pairs.{AddsPairs}
use Rattle.saturation.proofs.Readers.{added_then}
use Rattle.saturation.proofs.permitted.edges_with_read.Goals as goal

pub returns : goal.returns
returns c =
    let reader = c.args.reader.now in
    let link = subst (λ (es : List Edge). AddsPairs (λ a b. (a ≡ c.args.source) × (b ≡ c.args.number)) es c.add_edge.new.edges.items)
    (c.in_ok-edges.ensures.items ∙ c.deref.ensures.value) c.in_ok-add_edge.ensures in
    added_then c.args.history.now.events c.args.number c.args.cell.now c.args.source reader.level reader.seen c.args.marks.now
    c.args.forced.now.edges.items c.add_edge.new.edges.items c.add_demands.new.edges.items c.add_further_demands.new.edges.items
    link c.in_ok-add_demands.ensures c.in_ok-add_further_demands.ensures
