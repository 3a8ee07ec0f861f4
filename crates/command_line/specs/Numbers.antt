-- Numbers and levels as words of the command line.
use Rattle.std.specs.Prelude.{◌≡◌, ◌≤◌, ◌<◌, ◌+◌, ◌*◌, ◌-◌, ℕ, List, [], ◌∷◌, ◌++◌, length, codes, All, fold}
use Rattle.cell_base.specs.declared.level.Level.{Level}
use Rattle.cell_base.specs.declared.level.Level.TheVariants.{Rc, Ra, Cc}

-- the word of a level
abbrev pub level_word : Level → List ℕ
level_word Rc = codes "rc"
level_word Ra = codes "ra"
level_word Cc = codes "cc"

-- the text is the word of this level
abbrev pub IsLevelWord : List ℕ → Level → Type 0
IsLevelWord text level = text ≡ level_word level

abbrev pub IsDigit : ℕ → Type 0
IsDigit c = (48 ≤ c) × (c ≤ 57)

-- the number that decimal digits spell
abbrev pub number_of : List ℕ → ℕ
number_of digits = fold (λ n c. 10 * n + (c - 48)) 0 digits

-- digits, at least one, of a number below the bound
pub record IsNumber (bound : ℕ) (digits : List ℕ) (n : ℕ) : Type 0 where
  pub some : 0 < length digits
  pub each : All IsDigit digits
  pub value : n ≡ number_of digits
  pub bounded : n < bound

-- of a number that fits 32 bits
abbrev pub IsWord : List ℕ → ℕ → Type 0
IsWord digits n = IsNumber 4294967296 digits n

-- of one that fits 64 bits
abbrev pub IsLongWord : List ℕ → ℕ → Type 0
IsLongWord digits n = IsNumber 18446744073709551616 digits n

-- of one from 1 to this one
pub record IsUpTo (most : ℕ) (digits : List ℕ) (n : ℕ) : Type 0 where
  pub word : IsWord digits n
  pub some : 0 < n
  pub within : n ≤ most

-- numbers with a comma between two of them
abbrev pub Lists : List ℕ → List ℕ → Type 0
Lists text [] = ⊥
Lists text (n ∷ []) = IsWord text n
Lists text (n ∷ (m ∷ more)) = (front : List ℕ) × (rest : List ℕ) × (text ≡ front ++ 44 ∷ rest) × IsWord front n × Lists rest (m ∷ more)
