use Rattle.std.proofs.Common.{inl}
use Rattle.order_test.proofs.quick.session_has_none.Goals as goal

pub returns-in-None : goal.returns-in-None
returns-in-None c = λ h. inl c.in-None.ensures.none
