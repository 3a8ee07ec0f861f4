use Rattle.std.proofs.Common.{◌≡◌, ◌-◌, ◌^◌, take, min}
use Rattle.sql_lexer.specs.Bytes.{decimal}
use Rattle.sql_lexer.proofs.scan.digits.Given as goal

abbrev pub invariant-loop-b : goal.invariant-loop-b
invariant-loop-b l = l.n ≡ min (decimal (take l.b-index l.z)) (2 ^ 64 - 1)
