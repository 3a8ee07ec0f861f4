use Rattle.graph_base.proofs.Walks.{leads_cases, leads_from_cases}
use Rattle.reach_rows.proofs.reach.Reach.leads.Goals as goal

pub returns : goal.returns
returns c = (
  λ is. leads_from_cases c.args.self.now.pairs c.args.from c.args.to (c.is_or_reaches.ensures.0 is),
  λ on. c.is_or_reaches.ensures.1 (leads_cases c.args.self.now.pairs c.args.from c.args.to on),
)
