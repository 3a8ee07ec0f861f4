use Rattle.std.proofs.Common.{◌≤◌, ◌+◌, ◌-◌, ◌∙◌, ℕ, List, take, drop, length, ap, Some, arith}
use Rattle.std.proofs.lemmas.List.{length-drop}
use Rattle.std.proofs.lemmas.Bool.{eq-eqb, ne_eqb}
use Rattle.setup_client.specs.declared.errors.StatementFault.{StatementFault}
use Rattle.setup_client.specs.Errors.{first_among}
use Rattle.setup_client.proofs.Walks.{rest_is, walk_ends, walk_finds, walk_goes_on}
use Rattle.setup_client.proofs.errors.first_error.Goals as goal

pub returns-in_default : goal.returns-in_default
returns-in_default c =
    walk_ends c.args.told.now c.loop.counter c.loop.at c.loop.number (take (length c.args.told.now - c.loop.at) (drop c.loop.at c.args.told.now))
    (rest_is c.args.told.now c.loop.at) c.loop-test.true c.in_default.ensures.none
    ∙ c.loop.invariant.rest

pub returns-then-kind-eq-ERROR : goal.returns-then-kind-eq-ERROR
returns-then-kind-eq-ERROR c =
    ap (λ (fault : StatementFault). Some fault) c.in_ok-fault.ensures
    ∙ walk_finds c.args.told.now c.loop.counter c.loop.at c.loop.number (take (length c.args.told.now - c.loop.at) (drop c.loop.at c.args.told.now))
    (rest_is c.args.told.now c.loop.at) c.loop-test.true c.in-Some.size c.in-Some.ensures.some.1 c.in-Some.ensures.some.0
    (eq-eqb _ 69 c.if-kind-eq-ERROR.true)
    ∙ c.loop.invariant.rest

pub loop-preserved : goal.loop-preserved
loop-preserved c = record {
  rest = ap (λ (n : ℕ). first_among (length c.args.told.now - (c.loop.counter + 1)) n (drop (c.loop.at + c.in-Some.size) c.args.told.now))
      c.number_after-number.ensures.value
      ∙ walk_goes_on c.args.told.now c.loop.counter c.loop.at c.loop.number (take (length c.args.told.now - c.loop.at) (drop c.loop.at c.args.told.now))
      (rest_is c.args.told.now c.loop.at) c.loop-test.true c.in-Some.size c.in-Some.ensures.some.1 c.in-Some.ensures.some.0
      (ne_eqb _ 69 c.if-kind-eq-ERROR.false)
      ∙ c.loop.invariant.rest;
  within = let e : c.in-Some.size ≤ length (take (length c.args.told.now - c.loop.at) (drop c.loop.at c.args.told.now)) = c.in-Some.ensures.within.1 in
      let same = ap (λ (bs : List ℕ). length bs) (rest_is c.args.told.now c.loop.at) in
      let d = length-drop c.loop.at c.args.told.now in let w = c.loop.invariant.within in omega arith;
  few = let l = c.number_after-number.ensures.little in let f = c.loop.invariant.few in let s = c.in-Some.ensures.within.0 in omega arith;
}
