use Rattle.std.proofs.Common.{◌≡◌}
use Rattle.sql_refusal.specs.Pieces.{some, pieces}
use Rattle.sql_refusal.specs.Streams.{left_in, pieces_of, tokens_in}
use Rattle.sql_refusal.proofs.judge.some_piece.Given as goal

abbrev pub invariant-loop-rest : goal.invariant-loop-rest
invariant-loop-rest g l = some g.T.Test.test (pieces_of (tokens_in l.rest)) ≡ some g.T.Test.test (pieces l.tokens)

abbrev pub decreases-loop-rest : goal.decreases-loop-rest
decreases-loop-rest g l = left_in l.rest
