-- How long the parts of the server's messages are.
use Rattle.std.proofs.Common.{◌≡◌, ℕ, ◌+◌, List, [], ◌++◌, length, refl, arith, length-append}
use Rattle.sql_tree.specs.declared.table.OutField.{OutField}
use Rattle.pg_framing.specs.Replies.{two_bytes, field_bytes}
use Rattle.pg_framing.proofs.Numbers.{length-four_bytes}

pub length-two_bytes : (n : ℕ) → length (two_bytes n) ≡ 2
unfolding two_bytes
length-two_bytes n = refl

-- the description of a column has 19 bytes beside its name
pub length-field_bytes : (field : OutField) → length (field_bytes field) ≡ length field.name + 19
unfolding field_bytes
length-field_bytes field = simp (length-append, length-four_bytes, length-two_bytes) (omega arith)

-- a body of one member
pub length-one : (n : ℕ) (member : List ℕ) → length (two_bytes n ++ (member ++ [])) ≡ length member + 2
length-one n member = simp (length-append, length-two_bytes) (omega arith)
