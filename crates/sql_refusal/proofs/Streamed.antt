-- Token lists read from left to right are judged as the definitions say.
use Rattle.std.proofs.Common.{◌≡◌, ℕ, ◌+◌, ◌-◌, ◌≤◌, Bool, true, false, List, [], ◌∷◌, ◌++◌, Option, Some, None, refl, ap, sym, ◌∙◌, arith}
use Rattle.std.specs.Prelude.{◌||◌, ◌&&◌, if◌then◌else◌, eqb, nat_lt, codes}
use Rattle.sql_tree.specs.declared.token.Token.{Token}
use Rattle.sql_tree.specs.declared.token.Sign.TheVariants as s
use Rattle.sql_tree.specs.declared.token.TokenKind.{TokenKind}
use Rattle.sql_tree.specs.declared.token.TokenKind.TheVariants as t
use Rattle.sql_refusal.specs.Pieces.{pieces, in_front, is_semi, is_open, is_close, is_comma, is_word, tokens_that, some_place, places, some, number, holds_a_token, ends_with, at_level_0, too_deep}
use Rattle.sql_refusal.specs.Pieces as spec
use Rattle.sql_refusal.specs.Streams.{first_piece, after_piece, pieces_of, one_if, is_deep, commas_from, is_unsupported, holds_unsupported}

-- ---- pieces

cut : (t : Token) (ts : List Token) (c : Bool) → pieces ts ≡ first_piece ts ∷ pieces_of (after_piece ts)
    → (if c then [] ∷ pieces ts else in_front t (pieces ts)) ≡ (if c then [] else t ∷ first_piece ts) ∷ pieces_of (if c then Some ts else after_piece ts)
cut t ts true e = refl
cut t ts false e = ap (λ z. in_front t z) e

pub pieces_are : (ts : List Token) → pieces ts ≡ first_piece ts ∷ pieces_of (after_piece ts)
unfolding pieces first_piece after_piece
pieces_are [] = refl
pieces_are (t ∷ ts) = cut t ts (is_semi t.kind) (pieces_are ts)

-- one piece more is tested
pub some_step : (test : List Token → Bool) (ts : List Token) → some test (pieces ts) ≡ (test (first_piece ts) || some test (pieces_of (after_piece ts)))
unfolding some
some_step test ts = rw (pieces_are ts) refl

pub some_here : (test : List Token → Bool) (ts : List Token) → test (first_piece ts) ≡ true → some test (pieces ts) ≡ true
some_here test ts h = some_step test ts ∙ rw h refl

pub some_later : (test : List Token → Bool) (ts : List Token) (us : Option (List Token)) → test (first_piece ts) ≡ false → us ≡ after_piece ts → some test (pieces ts) ≡ some test (pieces_of us)
some_later test ts us h e = some_step test ts ∙ rw (h, e) refl

pub number_step : (test : List Token → Bool) (ts : List Token) (us : Option (List Token)) (c : Bool) → test (first_piece ts) ≡ c → us ≡ after_piece ts → number test (pieces ts) ≡ one_if c + number test (pieces_of us)
unfolding number
number_step test ts us true h e = rw (pieces_are ts, h, e) refl
number_step test ts us false h e = rw (pieces_are ts, h, e) refl

-- ---- levels

counted : (test : TokenKind → Bool) (ts : List Token) (t : Token) → tokens_that test (ts ++ t ∷ []) ≡ tokens_that test ts + one_if (test t.kind)
unfolding tokens_that
counted test [] t = last (test t.kind)
  where
    last : (c : Bool) → (if c then 1 else 0) + 0 ≡ 0 + one_if c
    last true = refl
    last false = refl
counted test (u ∷ us) t = let e = counted test us t in rw e (omega arith)

pub deep_is : (before ts : List Token) → some_place (λ b t a. too_deep b) before ts ≡ is_deep (tokens_that is_open before) (tokens_that is_close before) ts
unfolding some_place is_deep
deep_is before [] = refl
deep_is before (t ∷ ts) = ap (λ z. too_deep before || z) (deep_is (before ++ t ∷ []) ts ∙ rw (counted is_open before t, counted is_close before t) refl)

pub commas_are : (before ts : List Token) → places (λ b t a. is_comma t.kind && at_level_0 b) before ts ≡ commas_from (tokens_that is_open before) (tokens_that is_close before) ts
unfolding places commas_from
commas_are before [] = refl
commas_are before (t ∷ ts) = both _ (commas_are (before ++ t ∷ []) ts ∙ rw (counted is_open before t, counted is_close before t) refl)
  where
    both : {m n : ℕ} (c : Bool) → m ≡ n → (if c then 1 else 0) + m ≡ one_if c + n
    both true e = ap (λ z. 1 + z) e
    both false e = ap (λ z. 0 + z) e

-- ---- tokens that aren't supported

filled : (ts : List Token) (t : Token) → holds_a_token (ts ++ t ∷ []) ≡ true
filled [] t = refl
filled (u ∷ us) t = refl

ended : (word : List ℕ) (ts : List Token) (t : Token) → ends_with word (ts ++ t ∷ []) ≡ is_word word t.kind
ended word [] t = refl
ended word (u ∷ []) t = refl
ended word (u ∷ v ∷ us) t = ended word (v ∷ us) t

same : (before : List Token) (k : TokenKind) (after : List Token) → spec.is_unsupported before k after ≡ is_unsupported (holds_a_token before) (ends_with (codes "create") before) k after
same before (t.Word w) after = refl
same before (t.Sign s.Cast) after = refl
same before (t.Sign s.Join) after = refl
same before (t.Param n) after = refl
same before _ after = refl

pub unsupported_is : (before ts : List Token) → some_place (λ b t a. spec.is_unsupported b t.kind a) before ts ≡ holds_unsupported (holds_a_token before) (ends_with (codes "create") before) ts
unfolding some_place holds_unsupported
unsupported_is before [] = refl
unsupported_is before (t ∷ ts) =
    rw (same before t.kind ts) (ap (λ z. is_unsupported (holds_a_token before) (ends_with (codes "create") before) t.kind ts || z)
    (unsupported_is (before ++ t ∷ []) ts ∙ rw (filled before t, ended (codes "create") before t) refl))

-- ---- whole pieces

pub deep_place_is : (ts : List Token) → spec.has_deep_place ts ≡ is_deep 0 0 ts
unfolding tokens_that
deep_place_is ts = deep_is [] ts

pub commas_place_are : (ts : List Token) → spec.commas ts ≡ commas_from 0 0 ts
unfolding tokens_that
commas_place_are ts = commas_are [] ts

pub unsupported_place_is : (ts : List Token) → spec.has_unsupported_place ts ≡ holds_unsupported false false ts
unsupported_place_is ts = unsupported_is [] ts

pub count_here : (n : ℕ) → nat_lt 0 (1 + n) ≡ true
count_here n = grind arith

pub count_on : (a n : ℕ) → 1 ≤ a → nat_lt a (1 + n) ≡ nat_lt (a - 1) n
count_on a n h = grind arith

pub none_above : (a : ℕ) → nat_lt a 0 ≡ false
none_above a = grind arith
