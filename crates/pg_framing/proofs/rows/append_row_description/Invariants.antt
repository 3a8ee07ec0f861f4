use Rattle.std.proofs.Common.{◌≡◌, ◌++◌, length, take}
use Rattle.std.specs.Prelude.{flat_map}
use Rattle.pg_framing.specs.Replies.{two_bytes, field_bytes}
use Rattle.pg_framing.proofs.rows.append_row_description.Given as goal

abbrev pub invariant-loop-field : goal.invariant-loop-field
invariant-loop-field l = l.body.items ≡ two_bytes (length l.fields) ++ flat_map field_bytes (take l.field-index l.fields)
