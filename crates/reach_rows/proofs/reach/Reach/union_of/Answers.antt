use Rattle.std.proofs.Common.{ℕ, List, subst}
use Rattle.graph_base.specs.declared.Edge.{Edge}
use Rattle.graph_base.specs.Walk.{Reaches}
use Rattle.reach_rows.specs.Rows.{HasPair, GainsAll}
use Rattle.reach_rows.proofs.Closing.{AreRowsOf, closed_rows_of, pairs_of_view}
use Rattle.reach_rows.proofs.Carrying.{gains_from_empty}
use Rattle.reach_rows.proofs.Several.{any_mapped}
use Rattle.reach_rows.proofs.reach.Reach.union_of.Goals as goal

pub returns : goal.returns
returns c =
    let rows : List (List ℕ) = c.self.inside.rows in
    let are : AreRowsOf c.args.self.now.pairs rows =
    subst (λ (edges : List Edge). AreRowsOf edges rows) (pairs_of_view rows c.args.self.now c.self.view_is) (closed_rows_of rows c.self.invariant) in
    let gains : GainsAll (HasPair rows) c.args.members.now c.in_ok-row.row c.gather_ancestors.new.row =
    c.gather_ancestors.ensures in
    let is = gains_from_empty (HasPair rows) c.args.members.now c.in_ok-row.row c.gather_ancestors.new.row c.in_ok-row.ensures gains in
    λ n. (
      λ member. any_mapped (λ m. HasPair rows n m) (λ m. Reaches c.args.self.now.pairs n m) (λ m. (are n m).0) c.args.members.now
          ((is n).0 member),
      λ any. (is n).1 (any_mapped (λ m. Reaches c.args.self.now.pairs n m) (λ m. HasPair rows n m) (λ m. (are n m).1) c.args.members.now any),
    )
