use Rattle.std.proofs.Common.{ℕ, List, suc, ◌+◌, ◌≡◌, [], ◌∷◌, ◌++◌, ◌∙◌, ap, sym, arith}
use Rattle.sim_command.specs.Simulations.{numbers_from}
use Rattle.sim_command.proofs.Plays.{numbers_more}
use Rattle.sim_command.proofs.command.numbers_to.Goals as goal

pub loop-number-preserved : goal.loop-number-preserved
loop-number-preserved c =
    let n : ℕ = c.loop-number.number in
    let next : n + 1 ≡ 1 + n = omega arith in
    let more : suc n ≡ n + 1 = omega arith in
    record {
      items = c.in_ok-push.ensures.items ∙ ap (λ (ns : List ℕ). ns ++ (n + 1) ∷ []) c.loop-number.invariant.items
          ∙ ap (λ (k : ℕ). numbers_from 1 n ++ k ∷ []) next ∙ sym (numbers_more 1 n) ∙ ap (λ (k : ℕ). numbers_from 1 k) more;
    }
