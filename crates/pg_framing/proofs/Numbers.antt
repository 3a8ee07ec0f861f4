-- Numbers in four bytes.
use Rattle.std.proofs.Common.{◌≡◌, ℕ, length, refl}
use Rattle.pg_framing.specs.Spelling.{four_bytes}

pub length-four_bytes : (n : ℕ) → length (four_bytes n) ≡ 4
unfolding four_bytes
length-four_bytes n = refl
