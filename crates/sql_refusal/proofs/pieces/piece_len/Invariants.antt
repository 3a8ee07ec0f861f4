use Rattle.std.proofs.Common.{◌≡◌, ◌++◌, ◌-◌, ◌≤◌, length, take, drop}
use Rattle.sql_refusal.specs.Streams.{first_piece, after_piece}
use Rattle.sql_refusal.proofs.pieces.piece_len.Given as goal

abbrev pub invariant-loop-len : goal.invariant-loop-len
invariant-loop-len l =
    (l.len ≤ length l.tokens)
    × (take l.len l.tokens ++ first_piece (drop l.len l.tokens) ≡ first_piece l.tokens)
    × (after_piece (drop l.len l.tokens) ≡ after_piece l.tokens)

abbrev pub decreases-loop-len : goal.decreases-loop-len
decreases-loop-len l = length l.tokens - l.len
