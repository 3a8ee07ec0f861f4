use Rattle.std.proofs.Common.{◌≡◌, ◌<◌, ℕ, List, length, subst, sym, arith}
use Rattle.std.specs.List.{All}
use Rattle.reach_rows.proofs.Closing.{size_of}
use Rattle.reach_rows.proofs.OneStar.{star_known}
use Rattle.reach_rows.proofs.Carrying.{gathered_below}
use Rattle.reach_rows.proofs.Adding.{IsStarAdded, added_star, last_after, down_of_row}
use Rattle.reach_rows.proofs.reach.Reach.add_star.Goals as goal

pub returns-then-all_before-clause-closure : goal.returns-then-all_before-clause-closure
returns-then-all_before-clause-closure c =
    star_known c.args.self.now.pairs c.args.members.now c.args.target (c.all_before.ensures.0 c.if-all_before.true)

pub copy_to-requires : goal.copy_to-requires
copy_to-requires c =
    let size : length c.self.inside.rows ≡ c.args.self.now.size = size_of c.self.inside.rows c.args.self.now c.self.view_is in
    let small = c.requires.target in
    omega arith

pub gather-requires-clause-members : goal.gather-requires-clause-members
gather-requires-clause-members c =
    subst (λ (k : ℕ). All (λ m. m < k) c.args.members.now) (sym (size_of c.self.inside.rows c.args.self.now c.self.view_is)) c.requires.members

pub gather-requires-clause-down : goal.gather-requires-clause-down
gather-requires-clause-down c = down_of_row c.self.inside.rows c.copy_to.new.row c.args.target c.self.invariant c.copy_to.ensures

pub spread-requires-clause-target : goal.spread-requires-clause-target
spread-requires-clause-target c =
    let size : length c.self.inside.rows ≡ c.args.self.now.size = size_of c.self.inside.rows c.args.self.now c.self.view_is in
    let small = c.requires.target in
    omega arith

pub spread-requires-clause-gained : goal.spread-requires-clause-gained
spread-requires-clause-gained c =
    gathered_below c.self.inside.rows c.args.members.now c.args.target c.copy_to.new.row c.gather.new.row c.self.invariant
    (subst (λ (k : ℕ). All (λ m. m < k) c.args.members.now) (sym (size_of c.self.inside.rows c.args.self.now c.self.view_is)) c.requires.members)
    c.copy_to.ensures c.gather.ensures

pub invariant_of-self : goal.invariant_of-self
invariant_of-self c =
    let rows : List (List ℕ) = c.self.inside.rows in
    let new : List (List ℕ) = c.spread.new.rows in
    let step : IsStarAdded c.args.self.now new c.args.members.now c.args.target =
    added_star rows new c.args.self.now c.args.members.now c.args.target c.copy_to.new.row c.gather.new.row c.self.view_is
    c.self.invariant c.requires.target c.requires.members c.requires.acyclic c.copy_to.ensures c.gather.ensures c.spread.ensures in
    step.closed

pub returns-clause-size : goal.returns-clause-size
returns-clause-size c =
    let rows : List (List ℕ) = c.self.inside.rows in
    let new : List (List ℕ) = c.spread.new.rows in
    let step : IsStarAdded c.args.self.now new c.args.members.now c.args.target =
    added_star rows new c.args.self.now c.args.members.now c.args.target c.copy_to.new.row c.gather.new.row c.self.view_is
    c.self.invariant c.requires.target c.requires.members c.requires.acyclic c.copy_to.ensures c.gather.ensures c.spread.ensures in
    step.size

pub returns-clause-closure : goal.returns-clause-closure
returns-clause-closure c =
    let rows : List (List ℕ) = c.self.inside.rows in
    let new : List (List ℕ) = c.spread.new.rows in
    let step : IsStarAdded c.args.self.now new c.args.members.now c.args.target =
    added_star rows new c.args.self.now c.args.members.now c.args.target c.copy_to.new.row c.gather.new.row c.self.view_is
    c.self.invariant c.requires.target c.requires.members c.requires.acyclic c.copy_to.ensures c.gather.ensures c.spread.ensures in
    step.closure

pub returns-clause-last : goal.returns-clause-last
returns-clause-last c =
    let rows : List (List ℕ) = c.self.inside.rows in
    let new : List (List ℕ) = c.spread.new.rows in
    let step : IsStarAdded c.args.self.now new c.args.members.now c.args.target =
    added_star rows new c.args.self.now c.args.members.now c.args.target c.copy_to.new.row c.gather.new.row c.self.view_is
    c.self.invariant c.requires.target c.requires.members c.requires.acyclic c.copy_to.ensures c.gather.ensures c.spread.ensures in
    last_after c.args.self.now new c.args.members.now c.args.target step
