use Rattle.std.proofs.Common.{◌≡◌, ◌+◌, ◌≤◌, length}
use Rattle.std.specs.Prelude.{nat_lt}
use Rattle.sql_refusal.specs.Streams.{commas_from}
use Rattle.sql_refusal.proofs.pieces.has_many_commas.Given as goal

abbrev pub invariant-loop-ahead : goal.invariant-loop-ahead
invariant-loop-ahead l =
    (nat_lt l.left (commas_from l.opened l.closed l.ahead) ≡ nat_lt 999 (commas_from 0 0 l.piece))
    × (l.opened + length l.ahead ≤ length l.piece) × (l.closed + length l.ahead ≤ length l.piece)

abbrev pub decreases-loop-ahead : goal.decreases-loop-ahead
decreases-loop-ahead l = length l.ahead
