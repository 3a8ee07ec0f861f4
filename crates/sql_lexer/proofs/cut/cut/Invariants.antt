use Rattle.std.proofs.Common.{◌-◌, length}
use Rattle.sql_lexer.specs.Front.{is_joined}
use Rattle.sql_lexer.proofs.Cuts.{CutSo}
use Rattle.sql_lexer.proofs.cut.cut.Given as goal

abbrev pub invariant-loop-at : goal.invariant-loop-at
invariant-loop-at l = CutSo l.text (is_joined l.before) l.at l.found.items

abbrev pub decreases-loop-at : goal.decreases-loop-at
decreases-loop-at l = length l.text - l.at
