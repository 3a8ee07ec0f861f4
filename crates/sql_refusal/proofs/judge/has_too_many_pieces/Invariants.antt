use Rattle.std.proofs.Common.{◌≡◌}
use Rattle.std.specs.Prelude.{nat_lt}
use Rattle.sql_refusal.specs.Pieces.{number, holds_a_token, pieces}
use Rattle.sql_refusal.specs.Streams.{left_in, pieces_of, tokens_in}
use Rattle.sql_refusal.proofs.judge.has_too_many_pieces.Given as goal

abbrev pub invariant-loop-rest : goal.invariant-loop-rest
invariant-loop-rest l = nat_lt l.left (number (λ piece. holds_a_token piece) (pieces_of (tokens_in l.rest))) ≡ nat_lt 256 (number (λ piece. holds_a_token piece) (pieces l.tokens))

abbrev pub decreases-loop-rest : goal.decreases-loop-rest
decreases-loop-rest l = left_in l.rest
