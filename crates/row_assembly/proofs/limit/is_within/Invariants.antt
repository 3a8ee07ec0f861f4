-- The bytes so far.
use Rattle.std.proofs.Common.{◌≡◌, ◌^◌, ◌-◌, length, min, take}
use Rattle.std.specs.Prelude.{sum_by}
use Rattle.pg_framing.specs.Replies.{data_row}
use Rattle.row_assembly.proofs.limit.is_within.Given as goal

abbrev pub invariant-loop-row : goal.invariant-loop-row
invariant-loop-row l = l.bytes ≡ min (sum_by (λ row. length (data_row row)) (take l.row-index l.rows)) (2 ^ 64 - 1)
