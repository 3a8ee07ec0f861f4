use Rattle.std.proofs.Common.{◌≡◌, take, sum_by}
use Rattle.history_core.specs.Events.{key_bytes}
use Rattle.history_core.proofs.weight.keys_size.Given as goal

abbrev pub invariant-loop-key : goal.invariant-loop-key
invariant-loop-key l = l.size ≡ sum_by key_bytes (take l.key-index l.keys)
