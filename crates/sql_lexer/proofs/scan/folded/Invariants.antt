use Rattle.std.proofs.Common.{◌≡◌, take}
use Rattle.sql_lexer.specs.Bytes.{folded}
use Rattle.sql_lexer.proofs.scan.folded.Given as goal

abbrev pub invariant-loop-b : goal.invariant-loop-b
invariant-loop-b l = l.found.items ≡ folded (take l.b-index l.z)
