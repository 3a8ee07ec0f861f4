use Rattle.std.proofs.Common.{◌≡◌, ◌<◌, ◌++◌, decimal, length}
use Rattle.history_log.proofs.digits.leading_number.Given as goal

abbrev pub invariant-loop-digit : goal.invariant-loop-digit
invariant-loop-digit l = record { positive : 0 < l.number; small : l.number < 4294967296; spelled : l.text ≡ decimal l.number ++ l.rest }

abbrev pub decreases-loop-digit : goal.decreases-loop-digit
decreases-loop-digit l = length l.rest
