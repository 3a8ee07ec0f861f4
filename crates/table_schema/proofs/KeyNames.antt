-- Two names or more are no key.
use Rattle.std.proofs.Common.{◌≡◌, ℕ, ◌+◌, ◌<◌, ◌≤◌, List, [], ◌∷◌, ◌++◌, length, Ok, Err, Bool, true, false, cond, refl, arith}
use Rattle.std.specs.Str.{bytes_eq}
use Rattle.cell_base.specs.declared.sql_state.SqlState.TheVariants.{S0A000}
use Rattle.sql_tree.specs.declared.table.Column.{Column}
use Rattle.typing_rules.specs.Kinds.{is_boolean}
use Rattle.typing_rules.specs.Outcome.{Outcome}
use Rattle.typing_rules.specs.Building.{key_of, key_from}

pub many_marked : (columns : List Column) (marked listed : List (List ℕ)) → 2 ≤ length marked → key_of columns (marked ++ listed) ≡ Err S0A000
unfolding key_of
many_marked columns [] listed h = absurd (omega arith)
many_marked columns (a ∷ []) listed h = absurd (omega arith)
many_marked columns (a ∷ b ∷ more) listed h = refl

chosen : (boolean : Bool) (i n : ℕ) → cond {A = Outcome ℕ} boolean (Err S0A000) (Ok i) ≡ Ok n → n ≡ i
chosen true i n e = cc
chosen false i n e = cc

by_name : (same boolean : Bool) (rest : Outcome ℕ) (i k n : ℕ) → ((m : ℕ) → rest ≡ Ok m → m < i + 1 + k) → cond {A = Outcome ℕ} same (cond boolean (Err S0A000) (Ok i)) rest ≡ Ok n
    → n < i + (k + 1)
by_name true boolean rest i k n later e = let is : n ≡ i = chosen boolean i n e in omega arith
by_name false boolean rest i k n later e = let following : n < i + 1 + k = later n e in omega arith

found_within : (name : List ℕ) (i : ℕ) (columns : List Column) (n : ℕ) → key_from name i columns ≡ Ok n → n < i + length columns
found_within name i [] n e = cc
found_within name i (c ∷ cs) n e =
    let within : n < i + (length cs + 1) = by_name (bytes_eq c.name name) (is_boolean c.kind) (key_from name (i + 1) cs) i (length cs) n (λ m h. found_within name (i + 1) cs m h) e in
    omega arith

by_names : (columns : List Column) (names : List (List ℕ)) (n : ℕ) → key_of columns names ≡ Ok n → n < length columns
unfolding key_of
by_names columns [] n e = cc
by_names columns (name ∷ []) n e = let within : n < 0 + length columns = found_within name 0 columns n e in omega arith
by_names columns (a ∷ b ∷ more) n e = cc

-- a key is the number of a column
pub key_within : (columns : List Column) (names : List (List ℕ)) (n : ℕ) → key_of columns names ≡ Ok n → n < length columns
key_within = by_names
