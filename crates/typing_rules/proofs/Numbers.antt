-- A quoted literal that takes a type is a value of that type.
use Rattle.std.proofs.Common.{◌≡◌, ℕ, zero, suc, ◌-◌, ◌^◌, ◌<◌, ◌≤◌, Bool, true, false, cond, List, Option, Some, None, Ok, Err, refl, lit<, arith}
use Rattle.std.specs.Prelude.{nat_le, nat_lt, if◌then◌else◌}
use Rattle.std.proofs.lemmas.Bool.{leb-true, lt-ltb}
use Rattle.cell_base.specs.declared.sql_type.SqlType.{SqlType}
use Rattle.cell_base.specs.declared.sql_type.SqlType.TheVariants.{Boolean, Integer, Bigint, Text, Varchar, Numeric}
use Rattle.cell_base.specs.declared.sql_state.SqlState.TheVariants.{S22003}
use Rattle.cell_base.specs.declared.value.Value.{Value}
use Rattle.typing_rules.specs.Outcome.{Outcome, and_then}
use Rattle.typing_rules.specs.Kinds.{is_within, is_numeric, is_null_or_of}
use Rattle.typing_rules.specs.Literals.{with_sign, within, whole, integer_of, quoted}
use Rattle.typing_rules.specs.Sound.{Holds}

small : (n half : ℕ) → n < half → nat_lt n half ≡ true
small n half h = lt-ltb n half h

signed_within : (half : ℕ) (minus : Bool) (n : ℕ) → 0 < half → n ≤ (if minus then half else half - 1) → is_within half (with_sign minus n) ≡ true
signed_within half true zero p h = small 0 half p
signed_within half true (suc n) p h = small n half (omega arith)
signed_within half false n p h = small n half (omega arith)

tested : (half : ℕ) (minus : Bool) (n : ℕ) (test : Bool) → 0 < half → nat_le n (if minus then half else half - 1) ≡ test
    → Holds (λ z. is_within half z ≡ true) (cond test (Ok (with_sign minus n)) (Err S22003))
tested half minus n true p e = signed_within half minus n p (leb-true n (if minus then half else half - 1) e)
tested half minus n false p e = tt

within_fits : (half : ℕ) (o : Option (Bool × ℕ)) → 0 < half → Holds (λ z. is_within half z ≡ true) (within half o)
within_fits half None p = tt
within_fits half (Some n) p = tested half n.0 n.1 (nat_le n.1 (if n.0 then half else half - 1)) p refl

whole_fits : (half : ℕ) (text : List ℕ) → 0 < half → Holds (λ z. is_within half z ≡ true) (whole half text)
unfolding whole
whole_fits half text p = within_fits half (integer_of text) p

-- a value of the type, which isn't numeric
pub record IsConstant (kind : SqlType) (v : Value) : Type 0 where
  pub plain : is_numeric kind ≡ false
  pub typed : is_null_or_of kind v ≡ true

abbrev pub then_holds : {A B : Type 0} (P : A → Type 0) (Q : B → Type 0) (o : Outcome A) (f : A → Outcome B) → Holds P o → ((a : A) → P a → Holds Q (f a)) → Holds Q (and_then o f)
then_holds P Q (Ok a) f h g = g a h
then_holds P Q (Err code) f h g = tt

pub quoted_is : (kind : SqlType) (text : List ℕ) → Holds (IsConstant kind) (quoted kind text)
quoted_is Boolean text = tt
quoted_is Integer text =
    then_holds (λ z. is_within (2 ^ 31) z ≡ true) (IsConstant Integer) (whole (2 ^ 31) text) _ (whole_fits (2 ^ 31) text (lit< tt)) (λ n h. record { plain = refl; typed = h })
quoted_is Bigint text =
    then_holds (λ z. is_within (2 ^ 63) z ≡ true) (IsConstant Bigint) (whole (2 ^ 63) text) _ (whole_fits (2 ^ 63) text (lit< tt)) (λ n h. record { plain = refl; typed = refl })
quoted_is Text text = record { plain = refl; typed = refl }
quoted_is (Varchar n) text = record { plain = refl; typed = refl }
quoted_is Numeric text = tt
