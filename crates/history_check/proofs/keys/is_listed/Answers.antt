use Rattle.std.proofs.Common.{refl}
use Rattle.history_check.proofs.keys.is_listed.Goals as goal

pub returns-then-contains_key : goal.returns-then-contains_key
returns-then-contains_key c = (λ h is. c.contains_key.ensures.0 c.if-contains_key.true, λ all. refl)
