use Rattle.std.proofs.Common.{ℕ, List, subst}
use Rattle.graph_base.specs.declared.Edge.{Edge}
use Rattle.reach_rows.specs.Rows.{HasPair, IsDown, GainsOne}
use Rattle.reach_rows.proofs.Closing.{AreRowsOf, closed_rows_of, pairs_of_view}
use Rattle.reach_rows.proofs.Adding.{past_over, down_over}
use Rattle.reach_rows.proofs.reach.Reach.add_ancestors.Goals as goal

pub add_ancestors-requires-clause-down : goal.add_ancestors-requires-clause-down
add_ancestors-requires-clause-down c =
    let rows : List (List ℕ) = c.self.inside.rows in
    let are : AreRowsOf c.args.self.now.pairs rows =
    subst (λ (edges : List Edge). AreRowsOf edges rows) (pairs_of_view rows c.args.self.now c.self.view_is) (closed_rows_of rows c.self.invariant) in
    let down : IsDown rows c.args.row.now = λ a b pair member. c.requires.down a b ((are a b).0 pair) member in
    down

pub returns-clause-gains : goal.returns-clause-gains
returns-clause-gains c =
    let rows : List (List ℕ) = c.self.inside.rows in
    let are : AreRowsOf c.args.self.now.pairs rows =
    subst (λ (edges : List Edge). AreRowsOf edges rows) (pairs_of_view rows c.args.self.now c.self.view_is) (closed_rows_of rows c.self.invariant) in
    let gains : GainsOne (HasPair rows) c.args.number c.args.row.now c.add_ancestors.new.row = c.add_ancestors.ensures in
    past_over c.args.self.now.pairs rows c.args.number c.args.row.now c.add_ancestors.new.row are gains

pub returns-clause-down : goal.returns-clause-down
returns-clause-down c =
    let rows : List (List ℕ) = c.self.inside.rows in
    let are : AreRowsOf c.args.self.now.pairs rows =
    subst (λ (edges : List Edge). AreRowsOf edges rows) (pairs_of_view rows c.args.self.now c.self.view_is) (closed_rows_of rows c.self.invariant) in
    let gains : GainsOne (HasPair rows) c.args.number c.args.row.now c.add_ancestors.new.row = c.add_ancestors.ensures in
    down_over c.args.self.now.pairs c.args.number c.args.row.now c.add_ancestors.new.row c.requires.down
    (past_over c.args.self.now.pairs rows c.args.number c.args.row.now c.add_ancestors.new.row are gains)
