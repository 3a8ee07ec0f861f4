use Rattle.std.proofs.Common.{bit_or, rules, arith}
use Rattle.turn_lock.proofs.Placing.{marks}
use Rattle.turn_lock.proofs.lock.TurnLock.come_in.Goals as goal

pub fetch_or-requires : goal.fetch_or-requires
fetch_or-requires g c = (search rules, search rules, marks _ _ _ _ _ _ _ 1 (λ n. bit_or n 1) (omega arith))
