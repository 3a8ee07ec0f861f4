use Rattle.std.proofs.Common.{arith, inl, inr}
use Rattle.history_check.proofs.WriteLemmas.{value_bounded}
use Rattle.history_check.proofs.sources.gives_value.Goals as goal

pub returns-then-number-eq0 : goal.returns-then-number-eq0
returns-then-number-eq0 c = (
  λ h. inl (c.if-number-eq0.true, c.wrote_initially.ensures.0 h),
  λ writes. elim writes [
    | inl first ↦ c.wrote_initially.ensures.1 first.1
    | inr later ↦ absurd (let h = (value_bounded c.args.before.now c.args.number later.0).0 in let z = c.if-number-eq0.true in omega arith)
  ],
)
