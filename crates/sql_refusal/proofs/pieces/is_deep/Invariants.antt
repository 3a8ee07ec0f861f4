use Rattle.std.proofs.Common.{◌≡◌, ◌+◌, ◌≤◌, length}
use Rattle.sql_refusal.specs.Streams.{is_deep}
use Rattle.sql_refusal.proofs.pieces.is_deep.Given as goal

abbrev pub invariant-loop-ahead : goal.invariant-loop-ahead
invariant-loop-ahead l = (is_deep l.opened l.closed l.ahead ≡ is_deep 0 0 l.piece) × (l.opened + length l.ahead ≤ length l.piece) × (l.closed + length l.ahead ≤ length l.piece)

abbrev pub decreases-loop-ahead : goal.decreases-loop-ahead
decreases-loop-ahead l = length l.ahead
