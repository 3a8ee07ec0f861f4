use Rattle.std.proofs.Common.{List, length, subst}
use Rattle.graph_base.specs.declared.Edge.{Edge}
use Rattle.saturation.specs.Pairs.{AddsPairs}
use Rattle.cycle_report.specs.Views.{IsListedBelow}
use Rattle.cycle_report.proofs.PairSteps.{pairs_are}
use Rattle.cycle_report.proofs.pairs.pairs_of.Goals as goal

pub returns-clause-pairs : goal.returns-clause-pairs
returns-clause-pairs c =
    let events = c.args.view.now.events.now in
    pairs_are c.args.level events c.args.links.now c.add_events.new.edges.items c.requires.view.orderly c.requires.links
    (subst (λ (es : List Edge). AddsPairs (IsListedBelow c.args.level events (length events)) es c.add_events.new.edges.items) c.in_ok-edges.ensures
    c.in_ok-add_events.ensures)
