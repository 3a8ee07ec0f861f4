use Rattle.std.proofs.Common.{inl, inr}
use Rattle.order_test.proofs.quick.is_clear_directly.Goals as goal

pub returns : goal.returns
returns c = λ h other precedes rival. elim precedes [
  | inl ordered ↦ c.own_is_clear.ensures c.if-not-own_is_clear.false other ordered rival
  | inr from ↦ c.sources_are_clear.ensures h other from rival
]
