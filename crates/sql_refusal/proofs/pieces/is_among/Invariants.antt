use Rattle.std.proofs.Common.{◌≡◌, length, map}
use Rattle.sql_refusal.specs.Pieces.{is_among}
use Rattle.sql_refusal.proofs.pieces.is_among.Given as goal

abbrev pub invariant-loop-table : goal.invariant-loop-table
invariant-loop-table l = is_among (map (λ row. row.now) l.table) l.word ≡ is_among (map (λ row. row.now) l.initial.table) l.word

abbrev pub decreases-loop-table : goal.decreases-loop-table
decreases-loop-table l = length l.table
