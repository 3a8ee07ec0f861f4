-- The key of a CREATE TABLE.
use Rattle.std.proofs.Common.{◌≡◌, ℕ, suc, ◌+◌, false, List, [], ◌∷◌, Some, Ok, Err, refl, arith}
use Rattle.std.specs.Prelude.{slice_get}
use Rattle.std.specs.Str.{bytes_eq}
use Rattle.std.proofs.lemmas.Bool.{cond_both}
use Rattle.cell_base.specs.declared.sql_state.SqlState.TheVariants.{S0A000}
use Rattle.sql_tree.specs.declared.table.Column.{Column}
use Rattle.typing_rules.specs.Building.{key_from, key_of}
use Rattle.typing_rules.specs.Kinds.{is_boolean}
use Rattle.typing_rules.specs.Outcome.{Outcome}
use Rattle.typing_rules.specs.Sound.{Holds}
use Rattle.sound_table.proofs.Defaults.{holds_more}

-- the number of a column that isn't boolean, where the columns are numbered from this one on
pub record IsKeyOf (i : ℕ) (cs : List Column) (key : ℕ) : Type 0 where
  pub at : ℕ
  pub number : key ≡ i + at
  pub column : Column
  pub there : slice_get cs at ≡ Some column
  pub ordered : is_boolean column.kind ≡ false

later : (i : ℕ) (c : Column) (cs : List Column) (key : ℕ) → IsKeyOf (i + 1) cs key → IsKeyOf i (c ∷ cs) key
later i c cs key h = record { at = suc h.at; number = omega (arith, h.number); column = h.column; there = h.there; ordered = h.ordered }

named_key : (name : List ℕ) (i : ℕ) (cs : List Column) → Holds (IsKeyOf i cs) (key_from name i cs)
named_key name i [] = tt
named_key name i (c ∷ cs) =
    let P : Outcome ℕ → Type 0 = Holds (IsKeyOf i (c ∷ cs)) in
    cond_both (bytes_eq c.name name) _ _ P
    (λ _. cond_both (is_boolean c.kind) (Err S0A000) (Ok i) P (λ _. tt)
    (λ ordered. record { at = 0; number = omega arith; column = c; there = refl; ordered = ordered }))
    (λ _. holds_more (IsKeyOf (i + 1) cs) (IsKeyOf i (c ∷ cs)) (key_from name (i + 1) cs) (later i c cs) (named_key name (i + 1) cs))

pub key_is : (cs : List Column) (names : List (List ℕ)) → Holds (IsKeyOf 0 cs) (key_of cs names)
unfolding key_of
key_is cs [] = tt
key_is cs (name ∷ []) = named_key name 0 cs
key_is cs (name ∷ other ∷ more) = tt
