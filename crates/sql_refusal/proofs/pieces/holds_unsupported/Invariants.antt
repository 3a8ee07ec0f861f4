use Rattle.std.proofs.Common.{◌≡◌, false, length}
use Rattle.sql_refusal.specs.Streams.{holds_unsupported}
use Rattle.sql_refusal.proofs.pieces.holds_unsupported.Given as goal

abbrev pub invariant-loop-ahead : goal.invariant-loop-ahead
invariant-loop-ahead l = holds_unsupported l.filled l.after_create l.ahead ≡ holds_unsupported false false l.piece

abbrev pub decreases-loop-ahead : goal.decreases-loop-ahead
decreases-loop-ahead l = length l.ahead
