-- A quotient that is checked for 64 bits.
use Rattle.std.proofs.Common.{◌≡◌, ℕ, zero, suc, ◌<◌, false, cond, Option, Some, None, Result, Err, ℤ, pos, negsuc, FitsSigned, w64, of_z, refl, subst, sym, arith}
use Rattle.std.specs.Option.{SomeIff}
use Rattle.std.specs.Int.{CanDivide, IsNonZero}
use Rattle.std.specs.Int.RustNames.{int_div}
use Rattle.cell_base.specs.declared.sql_state.SqlState.{SqlState}
use Rattle.cell_base.specs.declared.sql_state.SqlState.TheVariants.{S22012}
use Rattle.cell_base.specs.declared.sql_type.SqlType.{SqlType}
use Rattle.sql_tree.specs.declared.op.Op.TheVariants.{Div}
use Rattle.expr_eval.specs.declared.datum.Datum.{Datum}
use Rattle.expr_eval.specs.Lent.{Lends}
use Rattle.expr_eval.specs.Operators.{is_zero, in_range, computed}

some_where : (q : Option ℤ) (P Q : Type 0) (v : ℤ) → P → SomeIff q (P × Q) v → SomeIff q Q v
some_where None P Q v p h = λ q. h (p, q)
some_where (Some n) P Q v p h = (h.0.1, h.1)

positive : (n : ℕ) → (n ≡ 0 → ⊥) → 0 < n
positive zero h = absurd (h refl)
positive (suc n) h = omega arith

not_zero : (b : ℤ) → (of_z w64 b ≡ 0 → ⊥) → is_zero b ≡ false
not_zero (pos zero) h = absurd (h refl)
not_zero (pos (suc n)) h = refl
not_zero (negsuc n) h = refl

pub divides : (kind : SqlType) (a b a' b' : ℤ) (q : Option ℤ) (r : Result Datum SqlState) → a' ≡ a → b' ≡ b → (of_z w64 b ≡ 0 → ⊥) → SomeIff q (CanDivide w64 a' b') (int_div a' b')
    → ((n : ℤ) → SomeIff q (FitsSigned w64 n) n → Lends r (in_range kind n)) → Lends r (computed kind Div a b)
divides kind a b a' b' q r is_a is_b apart given lent =
    let known : SomeIff q (IsNonZero w64 b × FitsSigned w64 (int_div a b)) (int_div a b) = subst (λ x. SomeIff q (CanDivide w64 x b) (int_div x b)) is_a (subst (λ y. SomeIff q (CanDivide w64 a' y) (int_div a' y)) is_b given) in
    let result : Lends r (in_range kind (int_div a b)) = lent (int_div a b) (some_where q (IsNonZero w64 b) (FitsSigned w64 (int_div a b)) (int_div a b) (positive (of_z w64 b) apart) known) in
    subst (λ t. Lends r (cond t (Err S22012) (in_range kind (int_div a b)))) (sym (not_zero b apart)) result
