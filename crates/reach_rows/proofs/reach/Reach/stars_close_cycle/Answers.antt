use Rattle.std.proofs.Common.{◌≡◌, ℕ, List, sym, subst}
use Rattle.graph_base.specs.declared.Edge.{Edge}
use Rattle.graph_base.specs.Walk.{HasCycle}
use Rattle.reach_rows.specs.Rows.{pairs_of, AreStarRows}
use Rattle.reach_rows.specs.Stars.{LeadInto}
use Rattle.reach_rows.proofs.Pairs.{pairs_acyclic}
use Rattle.reach_rows.proofs.Closing.{AreRowsOf, closed_rows_of, pairs_of_view}
use Rattle.reach_rows.proofs.Several.{lead_into_made}
use Rattle.reach_rows.proofs.reach.Reach.stars_close_cycle.Goals as goal

pub returns : goal.returns
returns c =
    let rows : List (List ℕ) = c.self.inside.rows in
    let pairs : pairs_of rows ≡ c.args.self.now.pairs = pairs_of_view rows c.args.self.now c.self.view_is in
    let are : AreRowsOf c.args.self.now.pairs rows =
    subst (λ (edges : List Edge). AreRowsOf edges rows) pairs (closed_rows_of rows c.self.invariant) in
    let acyclic : HasCycle c.args.self.now.pairs → ⊥ =
    subst (λ (edges : List Edge). HasCycle edges → ⊥) pairs (pairs_acyclic rows c.self.invariant) in
    let made : AreStarRows rows c.args.stars.now c.in_ok-befores.befores.items =
    c.in_ok-befores.ensures.1 in
    let into : LeadInto c.args.self.now.pairs c.args.stars.now c.in_ok-befores.befores.items =
    lead_into_made c.args.self.now.pairs rows c.args.stars.now c.in_ok-befores.befores.items are made in
    c.close_over.ensures c.args.self.now.pairs
    (subst (λ (rs : List (List ℕ)). LeadInto c.args.self.now.pairs c.args.stars.now rs) (sym c.deref_mut.ensures.value) into) acyclic
