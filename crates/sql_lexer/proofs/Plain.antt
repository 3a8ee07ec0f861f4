-- Which lexeme begins with which byte.
use Rattle.std.proofs.Common.{◌≡◌, ℕ, ◌<◌, ◌≤◌, true, false, ◌&&◌, ◌||◌, cond, Option, Some, None, refl, sym, ◌∙◌, subst, ◌⊎◌, inl, inr, lit<, arith}
use Rattle.std.specs.Prelude.{◌==◌, nat_le}
use Rattle.std.specs.Char.{is_ascii_alphabetic}
use Rattle.std.proofs.lemmas.Bool.{and_parts, or_cases, or_from, leb-true, lt-leb, eqb-true, ne_eqb, and_left, and_right, cond-true, cond-false, cond_both}
use Rattle.sql_tree.specs.declared.token.Sign.{Sign}
use Rattle.sql_tree.specs.declared.token.Sign.TheVariants as g
use Rattle.sql_lexer.specs.Bytes.{is_space, is_digit, begins_word}
use Rattle.sql_lexer.specs.Lexemes.{sign_of, sign_of_two}
use Rattle.sql_lexer.specs.Front.{chosen}

-- the byte begins none of the lexemes before the signs
pub record Plain (b : ℕ) : Type 0 where
  pub space : is_space b ≡ false
  pub word : begins_word b ≡ false
  pub name : (b == 34) ≡ false
  pub quote : (b == 39) ≡ false
  pub digit : is_digit b ≡ false
  pub dollar : (b == 36) ≡ false
  pub point : (b == 46) ≡ false
  pub low : b < 128

row : (b k : ℕ) (x s : Sign) (o : Option Sign) → Plain k → (o ≡ Some s → Plain b) → cond (b == k) (Some x) o ≡ Some s → Plain b
row b k x s o here again = cond_both (b == k) (Some x) o (λ v. v ≡ Some s → Plain b) (λ e _. subst Plain (sym (eqb-true b k e)) here) (λ _. again)

no_row : (b : ℕ) (s : Sign) → None ≡ Some s → Plain b
no_row b s e = absurd (cc)

pub plain : (k : ℕ) → is_space k ≡ false → begins_word k ≡ false → (k == 34) ≡ false → (k == 39) ≡ false → is_digit k ≡ false → (k == 36) ≡ false → (k == 46) ≡ false → k < 128 → Plain k
plain k a b c d e f x h = record { space = a; word = b; name = c; quote = d; digit = e; dollar = f; point = x; low = h }

pub sign_plain : (b : ℕ) (s : Sign) → sign_of b ≡ Some s → Plain b
sign_plain b s =
    row b 43 g.Plus s _ (plain 43 refl refl refl refl refl refl refl (lit< tt)) (row b 45 g.Minus s _ (plain 45 refl refl refl refl refl refl refl (lit< tt))
    (row b 42 g.Star s _ (plain 42 refl refl refl refl refl refl refl (lit< tt)) (row b 47 g.Slash s _ (plain 47 refl refl refl refl refl refl refl (lit< tt))
    (row b 37 g.Percent s _ (plain 37 refl refl refl refl refl refl refl (lit< tt)) (row b 61 g.Eq s _ (plain 61 refl refl refl refl refl refl refl (lit< tt))
    (row b 60 g.Lt s _ (plain 60 refl refl refl refl refl refl refl (lit< tt)) (row b 62 g.Gt s _ (plain 62 refl refl refl refl refl refl refl (lit< tt))
    (row b 40 g.Open s _ (plain 40 refl refl refl refl refl refl refl (lit< tt)) (row b 41 g.Close s _ (plain 41 refl refl refl refl refl refl refl (lit< tt))
    (row b 44 g.Comma s _ (plain 44 refl refl refl refl refl refl refl (lit< tt)) (row b 59 g.Semi s _ (plain 59 refl refl refl refl refl refl refl (lit< tt)) (no_row b s))))))))))))

-- the first byte of a sign of two bytes: none of these lexemes begins with it, nor a comment
pub record PlainTwo (b c : ℕ) : Type 0 where
  pub plain : Plain b
  pub line : (b == 45) ≡ false
  pub comment : (b == 47) ≡ false
  pub low : c < 128

row_two : (b c j k : ℕ) (x s : Sign) (o : Option Sign) → PlainTwo j k → (o ≡ Some s → PlainTwo b c) → cond (b == j && c == k) (Some x) o ≡ Some s → PlainTwo b c
row_two b c j k x s o here again =
    let P : Option Sign → Type 0 = λ v. v ≡ Some s → PlainTwo b c in
    cond_both (b == j && c == k) (Some x) o P (λ e _. two_at b c j k here (and_parts (b == j) (c == k) e)) (λ _. again)
  where
    two_at : (b c j k : ℕ) → PlainTwo j k → ((b == j) ≡ true) × ((c == k) ≡ true) → PlainTwo b c
    two_at b c j k here e = let p : b ≡ j = eqb-true b j e.0 in let q : c ≡ k = eqb-true c k e.1 in rw (p, q) here

row_either : (b c j k m n : ℕ) (x s : Sign) (o : Option Sign) → PlainTwo j k → PlainTwo m n → (o ≡ Some s → PlainTwo b c) → cond ((b == j && c == k) || (b == m && c == n)) (Some x) o ≡ Some s → PlainTwo b c
row_either b c j k m n x s o here there again =
    let P : Option Sign → Type 0 = λ v. v ≡ Some s → PlainTwo b c in
    cond_both ((b == j && c == k) || (b == m && c == n)) (Some x) o P (λ e _. either b c j k m n here there (or_cases (b == j && c == k) (b == m && c == n) e)) (λ _. again)
  where
    at : (b c j k : ℕ) → PlainTwo j k → (b == j && c == k) ≡ true → PlainTwo b c
    at b c j k here e = let e' = and_parts (b == j) (c == k) e in let p : b ≡ j = eqb-true b j e'.0 in let q : c ≡ k = eqb-true c k e'.1 in rw (p, q) here

    either : (b c j k m n : ℕ) → PlainTwo j k → PlainTwo m n → ((b == j && c == k) ≡ true) ⊎ ((b == m && c == n) ≡ true) → PlainTwo b c
    either b c j k m n here there (inl e) = at b c j k here e
    either b c j k m n here there (inr e) = at b c m n there e

no_row_two : (b c : ℕ) (s : Sign) → None ≡ Some s → PlainTwo b c
no_row_two b c s e = absurd (cc)

two : (j k : ℕ) → Plain j → (j == 45) ≡ false → (j == 47) ≡ false → k < 128 → PlainTwo j k
two j k a b c d = record { plain = a; line = b; comment = c; low = d }

pub sign_plain_two : (b c : ℕ) (s : Sign) → sign_of_two b c ≡ Some s → PlainTwo b c
sign_plain_two b c s =
    row_either b c 60 62 33 61 g.Ne s _ (two 60 62 (plain 60 refl refl refl refl refl refl refl (lit< tt)) refl refl (lit< tt)) (two 33 61 (plain 33 refl refl refl refl refl refl refl (lit< tt)) refl refl (lit< tt))
    (row_two b c 60 61 g.Le s _ (two 60 61 (plain 60 refl refl refl refl refl refl refl (lit< tt)) refl refl (lit< tt))
    (row_two b c 62 61 g.Ge s _ (two 62 61 (plain 62 refl refl refl refl refl refl refl (lit< tt)) refl refl (lit< tt))
    (row_two b c 58 58 g.Cast s _ (two 58 58 (plain 58 refl refl refl refl refl refl refl (lit< tt)) refl refl (lit< tt))
    (row_two b c 124 124 g.Join s _ (two 124 124 (plain 124 refl refl refl refl refl refl refl (lit< tt)) refl refl (lit< tt)) (no_row_two b c s)))))

-- ---- words and numbers

differs : (b k : ℕ) → k < b → (b == k) ≡ false
differs b k h = ne_eqb b k (λ e. omega arith)

not_space : (b : ℕ) → 33 ≤ b → is_space b ≡ false
not_space b h = or_from (b == 32) (nat_le 9 b && nat_le b 13) (differs b 32 (omega arith)) (and_right (nat_le 9 b) (nat_le b 13) (lt-leb b 13 (omega arith)))

range_from : (low top b : ℕ) → (nat_le low b && nat_le b top) ≡ true → low ≤ b
range_from low top b e = leb-true low b (and_parts (nat_le low b) (nat_le b top) e).0

letter_high : (b : ℕ) → ((nat_le 65 b && nat_le b 90) ≡ true) ⊎ ((nat_le 97 b && nat_le b 122) ≡ true) → 65 ≤ b
letter_high b (inl e) = range_from 65 90 b e
letter_high b (inr e) = let h = range_from 97 122 b e in omega arith

ascii_high : (b : ℕ) → (is_ascii_alphabetic b ≡ true) ⊎ ((b == 95) ≡ true) → 65 ≤ b
ascii_high b (inl e) = letter_high b (or_cases (nat_le 65 b && nat_le b 90) (nat_le 97 b && nat_le b 122) e)
ascii_high b (inr e) = let h = eqb-true b 95 e in omega arith

start_high : (b : ℕ) → ((is_ascii_alphabetic b || b == 95) ≡ true) ⊎ (nat_le 128 b ≡ true) → 65 ≤ b
start_high b (inl e) = ascii_high b (or_cases (is_ascii_alphabetic b) (b == 95) e)
start_high b (inr e) = let h = leb-true 128 b e in omega arith

word_high : (b : ℕ) → begins_word b ≡ true → 65 ≤ b
word_high b e = start_high b (or_cases (is_ascii_alphabetic b || b == 95) (nat_le 128 b) e)

pub digit_range : (b : ℕ) → is_digit b ≡ true → (48 ≤ b) × (b ≤ 57)
digit_range b e = let p = and_parts (nat_le 48 b) (nat_le b 57) e in (leb-true 48 b p.0, leb-true b 57 p.1)

below : (b k : ℕ) → b < k → (b == k) ≡ false
below b k h = ne_eqb b k (λ e. omega arith)

digit_no_word : (b : ℕ) → b ≤ 57 → begins_word b ≡ false
digit_no_word b h =
    or_from (is_ascii_alphabetic b || b == 95) (nat_le 128 b)
    (or_from (is_ascii_alphabetic b) (b == 95)
    (or_from (nat_le 65 b && nat_le b 90) (nat_le 97 b && nat_le b 122) (and_left (nat_le 65 b) (nat_le b 90) (lt-leb 65 b (omega arith))) (and_left (nat_le 97 b) (nat_le b 122) (lt-leb 97 b (omega arith))))
    (below b 95 (omega arith)))
    (lt-leb 128 b (omega arith))

-- ---- what is chosen

pub chosen_space : {X : Type 0} (b n : ℕ) (x0 x1 x2 x3 x4 x5 x6 x7 x8 x9 : X) → is_space b ≡ true → chosen b n x0 x1 x2 x3 x4 x5 x6 x7 x8 x9 ≡ x0
chosen_space b n x0 x1 x2 x3 x4 x5 x6 x7 x8 x9 e = rw e refl

pub chosen_word : {X : Type 0} (b n : ℕ) (x0 x1 x2 x3 x4 x5 x6 x7 x8 x9 : X) → begins_word b ≡ true → chosen b n x0 x1 x2 x3 x4 x5 x6 x7 x8 x9 ≡ x3
chosen_word b n x0 x1 x2 x3 x4 x5 x6 x7 x8 x9 e =
    let h = word_high b e in
    let space : is_space b ≡ false = not_space b (omega arith) in
    let line : (b == 45) ≡ false = differs b 45 (omega arith) in
    let comment : (b == 47) ≡ false = differs b 47 (omega arith) in
    cond-false (is_space b) x0 _ space ∙ cond-false (b == 45 && n == 45) x1 _ (and_left (b == 45) (n == 45) line) ∙ cond-false (b == 47 && n == 42) x2 _ (and_left (b == 47) (n == 42) comment)
    ∙ cond-true (begins_word b) x3 _ e

pub chosen_number : {X : Type 0} (b n : ℕ) (x0 x1 x2 x3 x4 x5 x6 x7 x8 x9 : X) → is_digit b ≡ true → chosen b n x0 x1 x2 x3 x4 x5 x6 x7 x8 x9 ≡ x6
chosen_number b n x0 x1 x2 x3 x4 x5 x6 x7 x8 x9 e =
    let h = digit_range b e in
    let space : is_space b ≡ false = not_space b (omega arith) in
    cond-false (is_space b) x0 _ space ∙ cond-false (b == 45 && n == 45) x1 _ (and_left (b == 45) (n == 45) (differs b 45 (omega arith)))
    ∙ cond-false (b == 47 && n == 42) x2 _ (and_left (b == 47) (n == 42) (differs b 47 (omega arith))) ∙ cond-false (begins_word b) x3 _ (digit_no_word b h.1)
    ∙ cond-false (b == 34) x4 _ (differs b 34 (omega arith)) ∙ cond-false (b == 39) x5 _ (differs b 39 (omega arith)) ∙ cond-true (is_digit b) x6 _ e

pub chosen_sign : {X : Type 0} (b n : ℕ) (x0 x1 x2 x3 x4 x5 x6 x7 x8 x9 : X) → Plain b → (b == 45 && n == 45) ≡ false → (b == 47 && n == 42) ≡ false → chosen b n x0 x1 x2 x3 x4 x5 x6 x7 x8 x9 ≡ x9
chosen_sign b n x0 x1 x2 x3 x4 x5 x6 x7 x8 x9 p line comment =
    cond-false (is_space b) x0 _ p.space ∙ cond-false (b == 45 && n == 45) x1 _ line ∙ cond-false (b == 47 && n == 42) x2 _ comment ∙ cond-false (begins_word b) x3 _ p.word
    ∙ cond-false (b == 34) x4 _ p.name ∙ cond-false (b == 39) x5 _ p.quote ∙ cond-false (is_digit b) x6 _ p.digit ∙ cond-false (b == 36) x7 _ p.dollar ∙ cond-false (b == 46) x8 _ p.point

-- what holds of each that can be chosen holds of the chosen one
pub chosen_all : {X : Type 0} (P : X → Type 0) (b n : ℕ) (x0 x1 x2 x3 x4 x5 x6 x7 x8 x9 : X) → (is_space b ≡ true → P x0) → ((b == 45 && n == 45) ≡ true → P x1) → ((b == 47 && n == 42) ≡ true → P x2)
    → (begins_word b ≡ true → P x3) → (b ≡ 34 → P x4) → (b ≡ 39 → P x5) → (is_digit b ≡ true → P x6) → (b ≡ 36 → P x7) → (b ≡ 46 → P x8)
    → (is_space b ≡ false → begins_word b ≡ false → (b == 34) ≡ false → (b == 39) ≡ false → is_digit b ≡ false → (b == 36) ≡ false → (b == 46) ≡ false
    → (b == 45 && n == 45) ≡ false → (b == 47 && n == 42) ≡ false → P x9)
    → P (chosen b n x0 x1 x2 x3 x4 x5 x6 x7 x8 x9)
chosen_all P b n x0 x1 x2 x3 x4 x5 x6 x7 x8 x9 h0 h1 h2 h3 h4 h5 h6 h7 h8 h9 =
    cond_both (is_space b) x0 _ P h0 (λ e0. cond_both (b == 45 && n == 45) x1 _ P h1 (λ e1. cond_both (b == 47 && n == 42) x2 _ P h2 (λ e2. cond_both (begins_word b) x3 _ P h3
    (λ e3. cond_both (b == 34) x4 _ P (λ e. h4 (eqb-true b 34 e)) (λ e4. cond_both (b == 39) x5 _ P (λ e. h5 (eqb-true b 39 e)) (λ e5. cond_both (is_digit b) x6 _ P h6
    (λ e6. cond_both (b == 36) x7 _ P (λ e. h7 (eqb-true b 36 e)) (λ e7. cond_both (b == 46) x8 x9 P (λ e. h8 (eqb-true b 46 e)) (λ e8. h9 e0 e3 e4 e5 e6 e7 e8 e1 e2)))))))))
