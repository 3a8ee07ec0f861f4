use Rattle.std.proofs.Common.{◌≡◌, length}
use Rattle.sql_grammar.specs.Syntax.{among, place}
use Rattle.sql_refusal.proofs.pass.is_among.Given as goal

abbrev pub invariant-loop-but : goal.invariant-loop-but
invariant-loop-but l = among l.but (place l.word) ≡ among l.initial.but (place l.word)

abbrev pub decreases-loop-but : goal.decreases-loop-but
decreases-loop-but l = length l.but
