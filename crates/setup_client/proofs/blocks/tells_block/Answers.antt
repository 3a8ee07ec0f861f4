use Rattle.std.proofs.Common.{◌≤◌, ◌-◌, ◌∙◌, List, ℕ, take, drop, length, ap, arith}
use Rattle.std.proofs.lemmas.List.{length-drop}
use Rattle.setup_client.proofs.Walks.{rest_is}
use Rattle.setup_client.proofs.BlockWalks.{block_ends, block_found, block_goes_on, says_as}
use Rattle.setup_client.proofs.blocks.tells_block.Goals as goal

pub returns-in_default : goal.returns-in_default
returns-in_default c =
    block_ends c.args.told.now c.loop.counter c.loop.at (take (length c.args.told.now - c.loop.at) (drop c.loop.at c.args.told.now))
    (rest_is c.args.told.now c.loop.at) c.loop-test.true c.in_default.ensures.none
    ∙ c.loop.invariant.rest

pub returns-then-says_block : goal.returns-then-says_block
returns-then-says_block c =
    let bytes : List ℕ = take (length c.args.told.now - c.loop.at) (drop c.loop.at c.args.told.now) in
    block_found c.args.told.now c.loop.counter c.loop.at bytes (rest_is c.args.told.now c.loop.at) c.loop-test.true c.in-Some.ensures.some.0
    (says_as bytes c.in-Some.size _ _ c.in-Some.ensures.some.1 c.says_block.ensures c.if-says_block.true)
    ∙ c.loop.invariant.rest

pub loop-preserved : goal.loop-preserved
loop-preserved c = let bytes : List ℕ = take (length c.args.told.now - c.loop.at) (drop c.loop.at c.args.told.now) in record {
  rest = block_goes_on c.args.told.now c.loop.counter c.loop.at bytes (rest_is c.args.told.now c.loop.at) c.loop-test.true c.in-Some.size
      c.in-Some.ensures.some.1 c.in-Some.ensures.some.0
      (says_as bytes c.in-Some.size _ _ c.in-Some.ensures.some.1 c.says_block.ensures c.if-says_block.false)
      ∙ c.loop.invariant.rest;
  within = let e : c.in-Some.size ≤ length bytes = c.in-Some.ensures.within.1 in
      let same = ap (λ (bs : List ℕ). length bs) (rest_is c.args.told.now c.loop.at) in
      let d = length-drop c.loop.at c.args.told.now in let w = c.loop.invariant.within in omega arith;
}
