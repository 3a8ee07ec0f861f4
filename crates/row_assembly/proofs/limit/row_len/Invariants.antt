-- The bytes so far.
use Rattle.std.proofs.Common.{◌≡◌, ◌+◌, ◌^◌, ◌-◌, min, take}
use Rattle.std.specs.Prelude.{sum_by}
use Rattle.row_assembly.proofs.Sizes.{size}
use Rattle.row_assembly.proofs.limit.row_len.Given as goal

abbrev pub invariant-loop-value : goal.invariant-loop-value
invariant-loop-value l = l.bytes ≡ min (7 + sum_by size (take l.value-index l.row)) (2 ^ 64 - 1)
