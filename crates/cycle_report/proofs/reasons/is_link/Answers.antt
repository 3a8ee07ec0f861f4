use Rattle.cycle_report.proofs.ReasonLemmas.{link_found, link_there}
use Rattle.cycle_report.proofs.reasons.is_link.Goals as goal

pub returns : goal.returns
returns c = (
  λ h. link_found c.args.view.now.events.now c.args.links.now c.args.first c.args.second c.requires (c.has_edge.ensures.0 h),
  λ next. c.has_edge.ensures.1 (link_there c.args.view.now.events.now c.args.links.now c.args.first c.args.second c.requires next),
)
