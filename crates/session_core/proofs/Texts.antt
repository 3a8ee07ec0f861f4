-- Texts without a zero byte.
use Rattle.std.proofs.Common.{◌≡◌, ℕ, zero, suc, List, [], ◌∷◌, Bool, true, false, arith}
use Rattle.cell_base.specs.Texts.{HasNoZero}
use Rattle.cell_base.proofs.Zeros.{NoZero, has_no_zero}

-- whether no byte is zero
abbrev pub has_none : List ℕ → Bool
has_none [] = true
has_none (zero ∷ bytes) = false
has_none (suc byte ∷ bytes) = has_none bytes

none_by_test : (bytes : List ℕ) → has_none bytes ≡ true → NoZero bytes
none_by_test [] e = tt
none_by_test (zero ∷ bytes) e = cc
none_by_test (suc byte ∷ bytes) e = (λ is. omega arith, none_by_test bytes e)

pub no_zero_by_test : (bytes : List ℕ) → has_none bytes ≡ true → HasNoZero bytes
no_zero_by_test bytes e = has_no_zero bytes (none_by_test bytes e)
