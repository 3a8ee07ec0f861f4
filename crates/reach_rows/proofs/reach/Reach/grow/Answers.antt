use Rattle.std.proofs.Common.{◌≡◌, ℕ, List, [], ◌∷◌, ◌++◌, length, arith, refl, ap, sym, subst}
use Rattle.graph_base.specs.declared.Edge.{Edge}
use Rattle.reach_rows.specs.Ancestry.{Ancestry, IsLast}
use Rattle.reach_rows.specs.Rows.{IsClosed}
use Rattle.reach_rows.proofs.Closing.{closed_push, size_of, grown, last_past}
use Rattle.reach_rows.proofs.reach.Reach.grow.Goals as goal

pub invariant_of-self-2 : goal.invariant_of-self-2
invariant_of-self-2 c =
    let items : c.push.new.self ≡ c.self.inside.rows ++ [] ∷ [] = c.in_ok-push.ensures.ok in
    let size : length c.self.inside.rows ≡ c.args.self.now.size =
    size_of c.self.inside.rows c.args.self.now c.self.view_is in
    let room = c.requires in
    subst (λ (rows : List (List ℕ)). IsClosed rows) (sym items)
    (closed_push c.self.inside.rows [] refl (omega arith) c.self.invariant)

pub returns-clause-ok : goal.returns-clause-ok
returns-clause-ok c =
    grown c.self.inside.rows c.push.new.self [] c.args.self.now c.self.view_is
    c.in_ok-push.ensures.ok refl

pub returns-clause-last : goal.returns-clause-last
returns-clause-last c =
    let pairs = ap (λ (a : Ancestry). a.pairs) (grown c.self.inside.rows c.push.new.self [] c.args.self.now c.self.view_is
    c.in_ok-push.ensures.ok refl) in
    subst (λ (ps : List Edge). IsLast ps c.args.self.now.size) (sym pairs)
    (last_past c.self.inside.rows c.args.self.now c.self.view_is c.self.invariant)
