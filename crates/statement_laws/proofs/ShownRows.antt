-- The row that a statement makes of what it read has at each column what is shown there.
use Rattle.std.proofs.Common.{◌≡◌, ℕ, zero, suc, ◌+◌, ◌≤◌, ◌==◌, Bool, true, false, cond, List, [], ◌∷◌, map, refl, sym, ap, ◌∙◌, ◌||◌, arith}
use Rattle.std.specs.Prelude.{replicate, slice_set}
use Rattle.std.specs.List.{list_any}
use Rattle.std.proofs.lemmas.Bool.{cond_both, eqb-true, eqb-false}
use Rattle.std.proofs.lemmas.Bool.Decides.{nat_tests}
use Rattle.cell_base.specs.declared.cell.Cell.{Cell}
use Rattle.cell_base.specs.declared.cell.Cell.TheVariants.{Field}
use Rattle.cell_base.specs.declared.key.Key.{Key}
use Rattle.cell_base.specs.declared.value.Value.{Value}
use Rattle.cell_base.specs.declared.value.Value.TheVariants.{Null}
use Rattle.typing_rules.specs.Mentions.{numbers_from}
use Rattle.row_meaning.specs.Pictures.{key_value, with_values, row_values}
use Rattle.statement_course.specs.Reading.{Part}
use Rattle.statement_laws.specs.Shown.{shown_at}

-- ---- lists by number

abbrev by_number : (ℕ → Value) → ℕ → ℕ → List Value
by_number f i n = map f (numbers_from i n)

same_by_number : (f g : ℕ → Value) (i n : ℕ) → ((j : ℕ) → i ≤ j → f j ≡ g j) → by_number f i n ≡ by_number g i n
same_by_number f g i zero h = refl
same_by_number f g i (suc n) h =
    let first : f i ≡ g i = h i (omega arith) in
    let others : by_number f (i + 1) n ≡ by_number g (i + 1) n = same_by_number f g (i + 1) n (λ j le. h j (omega (arith, le))) in
    cc

-- the value stands at one number
abbrev put : ℕ → Value → (ℕ → Value) → ℕ → Value
put c v f j = cond (j == c) v (f j)

put_here : (c j : ℕ) (v : Value) (f : ℕ → Value) → j ≡ c → put c v f j ≡ v
put_here c j v f e = grind (arith, nat_tests)

put_other : (c j : ℕ) (v : Value) (f : ℕ → Value) → (j ≡ c → ⊥) → put c v f j ≡ f j
put_other c j v f e = grind (arith, nat_tests)

set_by_number : (f : ℕ → Value) (i n c k : ℕ) (v : Value) → i + c ≡ k → slice_set (by_number f i n) c v ≡ by_number (put k v f) i n
set_by_number f i zero c k v at = refl
set_by_number f i (suc n) zero k v at =
    let first : v ≡ put k v f i = sym (put_here k i v f (omega (arith, at))) in
    let others : by_number f (i + 1) n ≡ by_number (put k v f) (i + 1) n =
    same_by_number f (put k v f) (i + 1) n (λ j le. sym (put_other k j v f (λ e. omega (arith, e, le, at)))) in
    cc
set_by_number f i (suc n) (suc c) k v at =
    let first : f i ≡ put k v f i = sym (put_other k i v f (λ e. omega (arith, e, at))) in
    let others : slice_set (by_number f (i + 1) n) c v ≡ by_number (put k v f) (i + 1) n = set_by_number f (i + 1) n c k v (omega (arith, at)) in
    cc

nulls_by_number : (i n : ℕ) → replicate {A = Value} n Null ≡ by_number (λ j. Null) i n
nulls_by_number i zero = refl
nulls_by_number i (suc n) = ap (λ vs. Null ∷ vs) (nulls_by_number (i + 1) n)

-- ---- columns that are read

abbrev with_read : (ℕ → Value) → List ℕ → (ℕ → Value) → ℕ → Value
with_read g columns f j = cond (list_any (λ c. c == j) columns) (g j) (f j)

put_either : (g f : ℕ → Value) (c j : ℕ) → put c (g c) f j ≡ cond (c == j) (g j) (f j)
put_either g f c j =
    cond_both (c == j) (g j) (f j) (λ x. put c (g c) f j ≡ x)
    (λ yes. put_here c j (g c) f (sym (eqb-true c j yes)) ∙ ap g (eqb-true c j yes)) (λ no. put_other c j (g c) f (λ e. eqb-false c j no (sym e)))

either : (here more : Bool) (v w : Value) → cond more v (cond here v w) ≡ cond (here || more) v w
either true true v w = refl
either true false v w = refl
either false true v w = refl
either false false v w = refl

one_read : (g f : ℕ → Value) (c j : ℕ) (more : Bool) → cond more (g j) (put c (g c) f j) ≡ cond (c == j || more) (g j) (f j)
one_read g f c j more = ap (λ v. cond more (g j) v) (put_either g f c j) ∙ either (c == j) more (g j) (f j)

read_by_number : (g f : ℕ → Value) (columns : List ℕ) (n : ℕ)
    → with_values (by_number f 0 n) (map (λ c. (c, g c)) columns) ≡ by_number (with_read g columns f) 0 n
read_by_number g f [] n = refl
read_by_number g f (c ∷ cs) n =
    ap (λ row. with_values row (map (λ c. (c, g c)) cs)) (set_by_number f 0 n c c (g c) (omega arith))
    ∙ (read_by_number g (put c (g c) f) cs n
    ∙ same_by_number (with_read g cs (put c (g c) f)) (with_read g (c ∷ cs) f) 0 n (λ j le. one_read g f c j (list_any (λ d. d == j) cs)))

pub row_shown : (value : Cell → Value) (part : Part) (key : Key)
    → row_values part.width part.key_column key (map (λ c. (c, value (Field part.table key c))) part.columns)
    ≡ map (shown_at value part key) (numbers_from 0 part.width)
row_shown value part key =
    ap (λ row. with_values (slice_set row part.key_column (key_value key)) (map (λ c. (c, value (Field part.table key c))) part.columns)) (nulls_by_number 0 part.width)
    ∙ (ap (λ row. with_values row (map (λ c. (c, value (Field part.table key c))) part.columns))
    (set_by_number (λ j. Null) 0 part.width part.key_column part.key_column (key_value key) (omega arith))
    ∙ read_by_number (λ c. value (Field part.table key c)) (put part.key_column (key_value key) (λ j. Null)) part.columns part.width)
