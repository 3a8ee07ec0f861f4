use Rattle.std.proofs.Common.{bit_or, rules, arith}
use Rattle.turn_lock.proofs.Placing.{marks}
use Rattle.turn_lock.proofs.lock.TurnLock.sleep_outside.Goals as goal

pub fetch_or-mark-requires : goal.fetch_or-mark-requires
fetch_or-mark-requires g c = (search rules, search rules, marks _ _ _ _ _ _ _ 1 (λ n. bit_or n 1) (omega arith))
