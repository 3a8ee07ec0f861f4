use Rattle.std.proofs.Common.{◌≡◌, ◌*◌, ◌≤◌}
use Rattle.std.specs.Prelude.{vec_capacity, vec_len}
use Rattle.bit_rows.specs.Segments.{AreCopied}
use Rattle.bit_rows.proofs.segments.copy_segments.Given as goal

abbrev pub invariant-loop-number : goal.invariant-loop-number
invariant-loop-number l =
    AreCopied l.number l.room l.more l.pool l.wider.items × (vec_len l.wider ≡ l.number * l.more)
    × (vec_capacity l.initial.wider ≤ vec_capacity l.wider)
