use Rattle.std.proofs.Common.{◌+◌, ◌%◌, ◌^◌, rules, arith}
use Rattle.turn_lock.proofs.Placing.{marks}
use Rattle.turn_lock.proofs.lock.TurnLock.open.Goals as goal

pub fetch_add-requires : goal.fetch_add-requires
fetch_add-requires g c = (search rules, search rules, marks _ _ _ _ _ _ _ 1 (λ n. (n + 1) % 2 ^ 64) (omega arith))
