-- What a default is converted to is one of its column's type.
use Rattle.std.proofs.Common.{◌≡◌, ℕ, ◌≤◌, true, ◌||◌, List, length, take, drop, chars, Option, Some, None, Ok, Err, ◌⊎◌, inl, inr, refl, ap, arith}
use Rattle.std.specs.Prelude.{◌==◌, nat_le, encode_utf8_all, ℤ, neg_ℤ}
use Rattle.std.proofs.lemmas.Bool.{cond_both, false≢true, leb-true, le-leb, or_right}
use Rattle.std.proofs.lemmas.List.{length-take}
use Rattle.std.proofs.lemmas.Str.{chars_from_encodes}
use Rattle.cell_base.specs.declared.sql_state.SqlState.TheVariants.{S22001, S22003, S54000}
use Rattle.cell_base.specs.declared.sql_type.SqlType.{SqlType}
use Rattle.cell_base.specs.declared.sql_type.SqlType.TheVariants.{Boolean, Integer, Bigint, Text, Varchar, Numeric}
use Rattle.cell_base.specs.declared.value.Value.{Value}
use Rattle.cell_base.specs.declared.value.Value.TheVariants as value
use Rattle.sql_tree.specs.declared.expr.Expr.{Expr, out-Expr}
use Rattle.sql_tree.specs.declared.expr.Expr.TheOpen.{Expr-F}
use Rattle.typing_rules.specs.Assignment.{stored_text, are_spaces, limited_text, assigned}
use Rattle.typing_rules.specs.Building.{default_of}
use Rattle.typing_rules.specs.Constants.{text_as, negative_as, negative_at, constant_at}
use Rattle.typing_rules.specs.Kinds.{fits, is_null_or_of}
use Rattle.typing_rules.specs.Literals.{quoted}
use Rattle.typing_rules.specs.Outcome.{Outcome}
use Rattle.typing_rules.specs.Sound.{Holds}
use Rattle.typing_rules.proofs.Numbers.{IsConstant, quoted_is}
use Rattle.sound_table.specs.WellFormed.{IsWithin, IsWithinLimit, IsSmall, IsDefault}

pub holds_more : {A : Type 0} (P Q : A → Type 0) (o : Outcome A) → ((a : A) → P a → Q a) → Holds P o → Holds Q o
holds_more P Q (Ok a) f h = f a h
holds_more P Q (Err code) f h = tt

null_is : (kind : SqlType) → IsDefault kind value.Null
null_is Boolean = record { typed = refl; within = tt; small = tt }
null_is Integer = record { typed = refl; within = tt; small = tt }
null_is Bigint = record { typed = refl; within = tt; small = tt }
null_is Text = record { typed = refl; within = tt; small = tt }
null_is (Varchar limit) = record { typed = refl; within = tt; small = tt }
null_is Numeric = record { typed = refl; within = tt; small = tt }

-- ---- texts

stored_is : (kind : SqlType) (text : List ℕ)
    → is_null_or_of kind (value.Text text) ≡ true → IsWithinLimit kind (value.Text text) → Holds (IsDefault kind) (stored_text text)
stored_is kind text typed within =
    cond_both (nat_le (length text) 65536) (Ok (value.Text text)) (Err S54000) (Holds (IsDefault kind))
    (λ e. record { typed = typed; within = within; small = leb-true (length text) 65536 e }) (λ _. tt)

-- what is left of a text that is too long
shortened : (limit : ℕ) (text : List ℕ) → IsWithin limit (encode_utf8_all (take limit (chars text)))
shortened limit text u =
    let kept = take limit (chars text) in
    let same : kept ≡ chars (encode_utf8_all kept) = chars_from_encodes kept (encode_utf8_all kept) u refl in
    let long = ap length same in
    let few : length (chars (encode_utf8_all kept)) ≤ limit = omega (arith, length-take limit (chars text)) in
    or_right (limit == 0) (nat_le (length (chars (encode_utf8_all kept))) limit) (le-leb _ _ few)

limited_is : (limit : ℕ) (text : List ℕ) → Holds (IsDefault (Varchar limit)) (limited_text limit text)
limited_is limit text =
    let P : Outcome Value → Type 0 = Holds (IsDefault (Varchar limit)) in
    let left = encode_utf8_all (take limit (chars text)) in
    cond_both (limit == 0 || nat_le (length (chars text)) limit) _ _ P (λ e. stored_is (Varchar limit) text refl (λ u. e))
    (λ _. cond_both (are_spaces (drop limit (chars text))) (stored_text left) (Err S22001) P
    (λ _. stored_is (Varchar limit) left refl (shortened limit text)) (λ _. tt))

-- ---- values

plain_value : (kind : SqlType) (v : Value) → is_null_or_of kind v ≡ true → IsWithinLimit kind v → IsSmall v → IsDefault kind v
plain_value kind v t s m = record { typed = t; within = s; small = m }

assigned_is : (kind : SqlType) (v : Value) → Holds (IsDefault kind) (assigned kind v)
assigned_is kind value.Unset = null_is kind
assigned_is kind value.Null = null_is kind
assigned_is Boolean (value.Flag flag) = plain_value Boolean (value.Flag flag) refl tt tt
assigned_is Integer (value.Int n) =
    cond_both (fits Integer n) (Ok (value.Int n)) (Err S22003) (Holds (IsDefault Integer)) (λ e. plain_value Integer (value.Int n) e tt tt) (λ _. tt)
assigned_is Bigint (value.Int n) = plain_value Bigint (value.Int n) refl tt tt
assigned_is Text (value.Text text) = stored_is Text text refl tt
assigned_is (Varchar limit) (value.Text text) = limited_is limit text
assigned_is _ _ = tt

-- ---- literals

-- a value of a type without texts is no text
small_value : (v : Value) → is_null_or_of Integer v ≡ true ⊎ is_null_or_of Bigint v ≡ true → IsSmall v
small_value (value.Text text) (inl e) = absurd (false≢true e)
small_value (value.Text text) (inr e) = absurd (false≢true e)
small_value _ e = tt

integer_text : (text : List ℕ) → Holds (IsDefault Integer) (quoted Integer text)
integer_text text =
    holds_more (IsConstant Integer) (IsDefault Integer) (quoted Integer text)
    (λ v h. plain_value Integer v h.typed tt (small_value v (inl h.typed))) (quoted_is Integer text)

bigint_text : (text : List ℕ) → Holds (IsDefault Bigint) (quoted Bigint text)
bigint_text text =
    holds_more (IsConstant Bigint) (IsDefault Bigint) (quoted Bigint text)
    (λ v h. plain_value Bigint v h.typed tt (small_value v (inr h.typed))) (quoted_is Bigint text)

text_is : (kind : SqlType) (text : List ℕ) → Holds (IsDefault kind) (text_as kind text)
text_is Boolean text = tt
text_is Integer text = integer_text text
text_is Bigint text = bigint_text text
text_is Text text = assigned_is Text (value.Text text)
text_is (Varchar limit) text = assigned_is (Varchar limit) (value.Text text)
text_is Numeric text = tt

negative_is : (kind : SqlType) (n : ℤ) → Holds (IsDefault kind) (negative_as kind n)
negative_is kind n =
    cond_both (fits Bigint (neg_ℤ n)) (assigned kind (value.Int (neg_ℤ n))) (Err S22003) (Holds (IsDefault kind))
    (λ _. assigned_is kind (value.Int (neg_ℤ n))) (λ _. tt)

negated_is : (kind : SqlType) (e : Expr-F Expr) → Holds (IsDefault kind) (negative_at kind e)
negated_is kind (Expr-F.Int n) = negative_is kind n
negated_is kind _ = tt

literal_is : (kind : SqlType) (e : Expr-F Expr) → Holds (IsDefault kind) (constant_at kind e)
literal_is kind (Expr-F.Int n) = assigned_is kind (value.Int n)
literal_is kind (Expr-F.Str text) = text_is kind text
literal_is kind (Expr-F.Flag b) = assigned_is kind (value.Flag b)
literal_is kind Expr-F.Null = null_is kind
literal_is kind (Expr-F.Neg e) = negated_is kind (out-Expr e)
literal_is kind _ = tt

pub default_is : (kind : SqlType) (default : Option Expr) → Holds (IsDefault kind) (default_of kind default)
default_is kind None = null_is kind
default_is kind (Some e) = literal_is kind (out-Expr e)
