use Rattle.reach_rows.proofs.OneStar.{star_meets}
use Rattle.reach_rows.proofs.reach.Reach.star_closes_cycle.Goals as goal

pub returns-clause-cycle : goal.returns-clause-cycle
returns-clause-cycle c =
    let cycle = star_meets c.args.self.now.pairs c.args.members.now c.args.target c.size-size.ensures.acyclic in
    (λ is. cycle.1 (c.meets_member.ensures.0 is), λ closed. c.meets_member.ensures.1 (cycle.0 closed))
