-- What is kept of the values tells the value of the aggregate.
use Rattle.std.proofs.Common.{◌≡◌, ℕ, ◌+◌, ◌≤◌, ◌^◌, min, nat_lt, ℤ, pos, ◌+ℤ◌, Bool, true, false, not, cond, List, [], ◌∷◌, length, fold, Some, None, Ok, Err, inl, inr, ◌⊎◌, refl, sym, ap, ◌∙◌, arith}
use Rattle.std.proofs.lemmas.Bool.{le-ltb}
use Rattle.cell_base.specs.declared.sql_type.SqlType.{SqlType}
use Rattle.cell_base.specs.declared.sql_type.SqlType.TheVariants.{Boolean, Integer, Bigint, Text, Varchar, Numeric}
use Rattle.cell_base.specs.declared.sql_state.SqlState.{SqlState}
use Rattle.cell_base.specs.declared.sql_state.SqlState.TheVariants.{S22003}
use Rattle.cell_base.specs.declared.value.Value.{Value}
use Rattle.cell_base.specs.declared.value.Value.TheVariants.{Int, Wide}
use Rattle.sql_tree.specs.declared.op.Aggregate.{Aggregate}
use Rattle.sql_tree.specs.declared.op.Aggregate.TheVariants as aggregate
use Rattle.typing_rules.specs.Outcome.{Outcome, and_then}
use Rattle.typing_rules.specs.Kinds.{is_null, fits, is_within}
use Rattle.row_meaning.specs.Groups.{number_in, integer, sum_from, sum_of, better, best, total, not_null}
use Rattle.row_totals.specs.declared.tally.Extreme.{Extreme}
use Rattle.row_totals.specs.declared.tally.Extreme.TheVariants as extreme
use Rattle.row_totals.specs.declared.tally.Partial.TheVariants.{Nothing, Number, Outside}
use Rattle.row_totals.specs.declared.tally.Tally.{Tally}
use Rattle.row_totals.specs.declared.tally.Tally.TheVariants.{Count, Sum, Best}
use Rattle.row_totals.specs.Tallies.{started, kept_as, wins, counted, with_value, told}

-- ---- a null doesn't count

kept_not_null : (t : Tally) (vs : List Value) → fold with_value t vs ≡ fold counted t (not_null vs)
kept_not_null t [] = refl
kept_not_null t (v ∷ vs) = by (λ t. kept_not_null t vs) (is_null v)
  where
    by : ((t : Tally) → fold with_value t vs ≡ fold counted t (not_null vs)) → (b : Bool) → fold with_value (cond b t (counted t v)) vs ≡ fold counted t (cond (not b) (v ∷ not_null vs) (not_null vs))
    by more true = more t
    by more false = more (counted t v)

-- ---- count

-- the same number, or both above each bigint
abbrev IsLike : ℕ → ℕ → Type 0
IsLike m n = (m ≡ n) ⊎ ((2 ^ 63 ≤ m) × (2 ^ 63 ≤ n))

like_more : (m n : ℕ) → IsLike m n → IsLike (min (m + 1) 18446744073709551615) (n + 1)
like_more m n h = grind arith

like_in : (m n : ℕ) → IsLike m n → number_in Bigint (pos m) ≡ number_in Bigint (pos n)
like_in m n (inl e) = ap (λ k. number_in Bigint (pos k)) e
like_in m n (inr h) =
    let above : nat_lt m (2 ^ 63) ≡ false = le-ltb _ _ h.0 in
    let above' : nat_lt n (2 ^ 63) ≡ false = le-ltb _ _ h.1 in
    ap (λ b. cond b (Ok (Int (pos m))) (Err S22003)) above ∙ sym (ap (λ b. cond b (Ok (Int (pos n))) (Err S22003)) above')

told_count : (vs : List Value) (m n : ℕ) → IsLike m n → told (fold counted (Count m) vs) ≡ number_in Bigint (pos (n + length vs))
told_count [] m n h = like_in m n h ∙ ap (λ k. number_in Bigint (pos k)) (omega arith)
told_count (v ∷ vs) m n h = told_count vs (min (m + 1) 18446744073709551615) (n + 1) (like_more m n h) ∙ ap (λ k. number_in Bigint (pos k)) (omega arith)

-- ---- sum

tested_code : (b : Bool) (v : Value) (code : SqlState) → cond b (Ok v) (Err S22003) ≡ Err code → code ≡ S22003
tested_code true v code h = cc
tested_code false v code h = cc

one_code : (kind : SqlType) (n : ℤ) (code : SqlState) → number_in kind n ≡ Err code → code ≡ S22003
one_code Boolean n code h = tested_code (fits Bigint n) (Int n) code h
one_code Integer n code h = tested_code (fits Bigint n) (Int n) code h
one_code Bigint n code h = tested_code (fits Bigint n) (Int n) code h
one_code Text n code h = tested_code (fits Bigint n) (Int n) code h
one_code (Varchar limit) n code h = tested_code (fits Bigint n) (Int n) code h
one_code Numeric n code h = tested_code (is_within (2 ^ 127) n) (Wide n) code h

told_outside : (kind : SqlType) (vs : List Value) → told (fold counted (Sum kind Outside) vs) ≡ Err S22003
told_outside kind [] = refl
told_outside kind (v ∷ vs) = told_outside kind vs

told_kept : (kind : SqlType) (vs : List Value) (n : ℤ) → ((n : ℤ) → told (fold counted (Sum kind (Number n)) vs) ≡ sum_from kind n vs) → (o : Outcome Value) → number_in kind n ≡ o
    → told (fold counted (Sum kind (kept_as n o)) vs) ≡ and_then o (λ partial. sum_from kind n vs)
told_kept kind vs n more (Ok v) h = more n
told_kept kind vs n more (Err code) h = told_outside kind vs ∙ ap Err (sym (one_code kind n code h))

told_from : (kind : SqlType) (vs : List Value) (n : ℤ) → told (fold counted (Sum kind (Number n)) vs) ≡ sum_from kind n vs
told_from kind [] n = refl
told_from kind (v ∷ vs) n = told_kept kind vs (n +ℤ integer v) (told_from kind vs) (number_in kind (n +ℤ integer v)) refl

told_sum_is : (kind : SqlType) (vs : List Value) → told (fold counted (Sum kind Nothing) vs) ≡ sum_of kind vs
told_sum_is kind [] = refl
told_sum_is kind (v ∷ vs) = told_kept kind vs (pos 0 +ℤ integer v) (told_from kind vs) (number_in kind (pos 0 +ℤ integer v)) refl

-- ---- min and max

told_best_from : (sought : Extreme) (vs : List Value) (found : Value) → told (fold counted (Best sought (Some found)) vs) ≡ Ok (fold (better (wins sought)) found vs)
told_best_from sought [] found = refl
told_best_from sought (v ∷ vs) found = told_best_from sought vs (better (wins sought) found v)

told_best : (sought : Extreme) (vs : List Value) → told (fold counted (Best sought None) vs) ≡ Ok (best (wins sought) vs)
told_best sought [] = refl
told_best sought (v ∷ vs) = told_best_from sought vs v

-- ---- all of them

told_total : (kind : SqlType) (function : Aggregate) (vs : List Value) → told (fold counted (started kind function) vs) ≡ total kind function vs
told_total kind aggregate.Count vs = told_count vs 0 0 (inl refl) ∙ ap (λ k. number_in Bigint (pos k)) (omega arith)
told_total kind aggregate.Sum vs = told_sum_is kind vs
told_total kind aggregate.Min vs = told_best extreme.Least vs
told_total kind aggregate.Max vs = told_best extreme.Greatest vs

pub told_is : (kind : SqlType) (function : Aggregate) (vs : List Value) → told (fold with_value (started kind function) vs) ≡ total kind function (not_null vs)
told_is kind function vs = ap told (kept_not_null (started kind function) vs) ∙ told_total kind function (not_null vs)
