use Rattle.std.proofs.Common.{◌∙◌, ap}
use Rattle.block_machine.proofs.errors.Errors.new.Goals as goal

pub invariant_of-result-clause-s08p01_is : goal.invariant_of-result-clause-s08p01_is
invariant_of-result-clause-s08p01_is c =
    ap (λ made. made.0.0.0.0.0.items) c.in_ok-made-4.ensures.same
    ∙ (ap (λ made. made.0.0.0.0.items) c.in_ok-made-3.ensures.same
    ∙ (ap (λ made. made.0.0.0.items) c.in_ok-made-2.ensures.same
    ∙ c.in_ok-made.ensures.first))
