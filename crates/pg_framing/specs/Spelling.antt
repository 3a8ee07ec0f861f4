-- How numbers and lengths are spelled in a message.
use Rattle.std.specs.Prelude.{ℕ, ◌+◌, List, ◌++◌, length}
use Rattle.std.specs.Int.{w32, to_be_bytes}

-- a number in four bytes, the greatest first
unfoldable pub four_bytes : ℕ → List ℕ
four_bytes n = to_be_bytes w32 n

-- a length, which counts its own four bytes, and what it is the length of
abbrev pub sized : List ℕ → List ℕ
sized body = four_bytes (4 + length body) ++ body
