use Rattle.std.proofs.Common.{◌++◌}
use Rattle.graph_base.specs.Closure.{SameClosure}
use Rattle.reach_rows.specs.Stars.{star_of}
use Rattle.reach_rows.proofs.Several.{adding_start, next_acyclic, adding_more, adding_all}
use Rattle.reach_rows.proofs.reach.Reach.add_stars.Goals as goal

pub loop-star-init : goal.loop-star-init
loop-star-init c = adding_start c.args.self.now c.args.stars.now

pub add_star-requires-clause-acyclic : goal.add_star-requires-clause-acyclic
add_star-requires-clause-acyclic c =
    rw c.deref.ensures.value
    (next_acyclic c.args.self.now c.loop-star.self c.args.stars.now c.loop-star.star-index c.star-item.result c.loop-star-test.true
    c.star-item.is c.requires.acyclic c.loop-star.invariant)

pub loop-star-preserved : goal.loop-star-preserved
loop-star-preserved c =
    let closure : SameClosure c.add_star.new.self.pairs
    (c.loop-star.self.pairs ++ star_of c.star-item.result.members.items c.star-item.result.target) =
    rw c.deref.ensures.value at c.add_star.ensures.closure in
    let last = rw c.deref.ensures.value at c.add_star.ensures.last in
    adding_more c.args.self.now c.loop-star.self c.add_star.new.self c.args.stars.now c.loop-star.star-index c.star-item.result
    c.loop-star-test.true c.star-item.is c.add_star.ensures.size closure last c.loop-star.invariant

pub returns-clause-closure : goal.returns-clause-closure
returns-clause-closure c =
    adding_all c.args.self.now c.loop-star.self c.args.stars.now c.loop-star.star-index c.loop-star-test.false c.loop-star.invariant
