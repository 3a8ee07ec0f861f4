use Rattle.std.proofs.Common.{◌≡◌, ◌++◌, length, take}
use Rattle.std.specs.Prelude.{flat_map}
use Rattle.pg_framing.specs.Replies.{two_bytes, value_bytes}
use Rattle.pg_framing.proofs.rows.append_data_row.Given as goal

abbrev pub invariant-loop-value : goal.invariant-loop-value
invariant-loop-value l = l.body.items ≡ two_bytes (length l.values) ++ flat_map value_bytes (take l.value-index l.values)
