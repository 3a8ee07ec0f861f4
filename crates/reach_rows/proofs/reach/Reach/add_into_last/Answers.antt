use Rattle.std.proofs.Common.{◌≡◌, ℕ, List, ◌∷◌, [], length, arith}
use Rattle.reach_rows.proofs.Closing.{size_of}
use Rattle.reach_rows.proofs.OneStar.{edge_known}
use Rattle.reach_rows.proofs.Adding.{IsStarAdded, added_into_last, only_member, last_after}
use Rattle.reach_rows.proofs.reach.Reach.add_into_last.Goals as goal

pub returns-then-reaches-clause-closure : goal.returns-then-reaches-clause-closure
returns-then-reaches-clause-closure c =
    edge_known c.args.self.now.pairs c.args.source c.args.reader (c.reaches.ensures.0 c.if-reaches.true)

pub join_up_to-requires-clause-number : goal.join_up_to-requires-clause-number
join_up_to-requires-clause-number c =
    let size : length c.self.inside.rows ≡ c.args.self.now.size = size_of c.self.inside.rows c.args.self.now c.self.view_is in
    let small = c.requires.source in
    omega arith

pub join_up_to-requires-clause-target : goal.join_up_to-requires-clause-target
join_up_to-requires-clause-target c =
    let size : length c.self.inside.rows ≡ c.args.self.now.size = size_of c.self.inside.rows c.args.self.now c.self.view_is in
    let small = c.requires.reader in
    omega arith

pub invariant_of-self : goal.invariant_of-self
invariant_of-self c =
    let rows : List (List ℕ) = c.self.inside.rows in
    let new : List (List ℕ) = c.join_up_to.new.self in
    let step : IsStarAdded c.args.self.now new (c.args.source ∷ []) c.args.reader =
    added_into_last rows new c.args.self.now c.args.source c.args.reader c.self.view_is c.self.invariant c.requires.source
    c.requires.reader c.requires.apart c.requires.last c.join_up_to.ensures in
    step.closed

pub returns-clause-size : goal.returns-clause-size
returns-clause-size c =
    let rows : List (List ℕ) = c.self.inside.rows in
    let new : List (List ℕ) = c.join_up_to.new.self in
    let step : IsStarAdded c.args.self.now new (c.args.source ∷ []) c.args.reader =
    added_into_last rows new c.args.self.now c.args.source c.args.reader c.self.view_is c.self.invariant c.requires.source
    c.requires.reader c.requires.apart c.requires.last c.join_up_to.ensures in
    step.size

pub returns-clause-closure : goal.returns-clause-closure
returns-clause-closure c =
    let rows : List (List ℕ) = c.self.inside.rows in
    let new : List (List ℕ) = c.join_up_to.new.self in
    let step : IsStarAdded c.args.self.now new (c.args.source ∷ []) c.args.reader =
    added_into_last rows new c.args.self.now c.args.source c.args.reader c.self.view_is c.self.invariant c.requires.source
    c.requires.reader c.requires.apart c.requires.last c.join_up_to.ensures in
    step.closure

pub returns-clause-last : goal.returns-clause-last
returns-clause-last c =
    let rows : List (List ℕ) = c.self.inside.rows in
    let new : List (List ℕ) = c.join_up_to.new.self in
    let step : IsStarAdded c.args.self.now new (c.args.source ∷ []) c.args.reader =
    added_into_last rows new c.args.self.now c.args.source c.args.reader c.self.view_is c.self.invariant c.requires.source
    c.requires.reader c.requires.apart c.requires.last c.join_up_to.ensures in
    λ n other. last_after c.args.self.now new (c.args.source ∷ []) c.args.reader step n (λ one. other (only_member c.args.source n one))
