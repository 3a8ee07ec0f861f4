-- Texts without a zero byte.
use Rattle.std.proofs.Common.{◌≡◌, ℕ, zero, suc, ◌+◌, cond, List, [], ◌∷◌, ◌++◌, sym, ◌∙◌, arith}
use Rattle.std.specs.Prelude.{◌==◌, nat_lt}
use Rattle.std.specs.Char.{to_ascii_lowercase}
use Rattle.std.proofs.lemmas.Bool.{cond_both, eqb-true}
use Rattle.std.proofs.lemmas.List.Elements.{Contains-append_left, Contains-append_right}
use Rattle.sql_lexer.specs.Bytes.{folded}
use Rattle.sql_lexer.specs.Lexemes.{doubled, to_quote}
use Rattle.cell_base.specs.Texts.{HasNoZero}

-- ---- parts

none : HasNoZero []
none at = let lt = at.1 in omega arith

first : (b : ℕ) (z : List ℕ) → HasNoZero (b ∷ z) → b ≡ 0 → ⊥
first b z h e = h (0, omega arith, e)

rest : (b : ℕ) (z : List ℕ) → HasNoZero (b ∷ z) → HasNoZero z
rest b z h at = let lt = at.1 in h (suc at.0, omega arith, at.2)

both : (b : ℕ) (z : List ℕ) → (b ≡ 0 → ⊥) → HasNoZero z → HasNoZero (b ∷ z)
both b z n h (zero, lt, e) = n e
both b z n h (suc k, lt, e) = h (k, omega arith, e)

pub before : (xs ys : List ℕ) → HasNoZero (xs ++ ys) → HasNoZero xs
before xs ys h at = h (Contains-append_left xs ys 0 at)

pub following : (xs ys : List ℕ) → HasNoZero (xs ++ ys) → HasNoZero ys
following xs ys h at = h (Contains-append_right xs ys 0 at)

-- ---- words in small letters

small_zero : (b : ℕ) → to_ascii_lowercase b ≡ 0 → b ≡ 0
small_zero b =
    let P : ℕ → Type 0 = λ n. n ≡ 0 → b ≡ 0 in
    cond_both (nat_lt b 65) b (cond (nat_lt b 91) (b + 32) b) P (λ _ e. e) (λ _. cond_both (nat_lt b 91) (b + 32) b P (λ _ e. omega arith) (λ _ e. e))

pub folded_free : (z : List ℕ) → HasNoZero z → HasNoZero (folded z)
folded_free [] h = none
folded_free (b ∷ z) h = both (to_ascii_lowercase b) (folded z) (λ e. first b z h (small_zero b e)) (folded_free z (rest b z h))

-- ---- what stands between quotes

doubled_free : (q : ℕ) (t : List ℕ) → HasNoZero (doubled q t) → HasNoZero t
doubled_free q [] h = none
doubled_free q (b ∷ t) h =
    cond_both (b == q) (q ∷ q ∷ doubled q t) (b ∷ doubled q t) (λ z. HasNoZero z → HasNoZero (b ∷ t))
    (λ same h. both b t (λ e. first q (q ∷ doubled q t) h (sym (eqb-true b q same) ∙ e)) (doubled_free q t (rest q (doubled q t) (rest q (q ∷ doubled q t) h))))
    (λ _ h. both b t (first b (doubled q t) h) (doubled_free q t (rest b (doubled q t) h)))
    h

pub quoted_free : (q : ℕ) (t : List ℕ) → HasNoZero (q ∷ to_quote q t) → HasNoZero t
quoted_free q t h = doubled_free q t (before (doubled q t) (q ∷ []) (rest q (to_quote q t) h))
