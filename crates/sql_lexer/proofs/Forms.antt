-- What each private function gives for a text that is written as a lexeme and what comes after.
use Rattle.std.proofs.Common.{◌≡◌, ℕ, suc, ◌+◌, ◌-◌, ◌≤◌, Bool, true, false, not, ◌&&◌, ◌||◌, cond, List, [], ◌∷◌, ◌++◌, length, take, Option, Some, None, Ok, Err, pos, refl, ap, sym, ◌∙◌, append_assoc, length-append, arith}
use Rattle.std.specs.Prelude.{◌==◌, nat_lt, slice_index, is_some}
use Rattle.std.proofs.lemmas.Bool.{or_parts}
use Rattle.std.proofs.lemmas.List.{get_or-append-add}
use Rattle.std.proofs.Math.Seq.{take-append_seam}
use Rattle.sql_tree.specs.declared.token.Sign.{Sign}
use Rattle.sql_tree.specs.declared.token.TokenKind.TheVariants as k
use Rattle.sql_lexer.specs.declared.fault.LexFault.TheVariants.{EmptyName, BadCharacter, Junk, TooWide, NameTooLong, Unsupported}
use Rattle.sql_lexer.specs.declared.piece.Piece.TheVariants.{Kind}
use Rattle.sql_lexer.specs.Bytes.{is_digit, is_in_word, is_prefix, AllAre, begins, begins_fraction, folded, decimal}
use Rattle.sql_lexer.specs.Lexemes.{doubled, to_quote, sign_of, sign_of_two, is_pair, most}
use Rattle.sql_lexer.specs.Scan.{closing, content}
use Rattle.sql_lexer.specs.Front.{Front, word, string, quoted, number, sign, is_fraction, string_or, name_or, between}
use Rattle.sql_lexer.proofs.Runs.{run_len, begins_first}
use Rattle.sql_lexer.proofs.Quotes.{Lacks, closes, content_doubled}

cut_at : (b : ℕ) (bytes after : List ℕ) → take (1 + length bytes) (b ∷ bytes ++ after) ≡ b ∷ bytes
cut_at b bytes after = let one : 1 + length bytes ≡ suc (length bytes) = omega arith in rw one (ap (λ z. b ∷ z) (take-append_seam bytes after))

-- ---- words

abbrev pub word_form : ℕ → ℕ → List ℕ → List ℕ → Front
word_form at b bytes after =
    cond (1 + length bytes == 1 && is_prefix b && slice_index (bytes ++ after) 0 == 39) (Err (Unsupported at))
    (cond (nat_lt 63 (1 + length bytes)) (Err (NameTooLong at)) (Ok (Kind (k.Word (folded (b ∷ bytes))), 1 + length bytes)))

pub word_is : (at b : ℕ) (bytes after : List ℕ) → AllAre is_in_word bytes → begins is_in_word after ≡ false → word at (b ∷ bytes ++ after) ≡ word_form at b bytes after
unfolding word
word_is at b bytes after all stops = rw (run_len is_in_word bytes after all stops, cut_at b bytes after) refl

-- ---- quoted parts

abbrev pub string_form : List ℕ → Front
string_form t = Ok (Kind (k.Str t), length (39 ∷ to_quote 39 t))

abbrev pub name_form : ℕ → List ℕ → Front
name_form at t = cond (length t == 0) (Err (EmptyName at)) (cond (nat_lt 63 (length t)) (Err (NameTooLong at)) (Ok (Kind (k.Quoted t), length (34 ∷ to_quote 34 t))))

quote_splits : (q : ℕ) (t after : List ℕ) → to_quote q t ++ after ≡ doubled q t ++ q ∷ after
quote_splits q t after = simp append_assoc

quote_size : (q : ℕ) (t : List ℕ) → length (q ∷ to_quote q t) ≡ 1 + length (doubled q t) + 1
quote_size q t = omega (arith, length-append (doubled q t) (q ∷ []))

pub quote_closes : (q : ℕ) (t after : List ℕ) → 1 ≤ q → Lacks q after → closing q false 1 (to_quote q t ++ after) ≡ Some (length (q ∷ to_quote q t))
quote_closes q t after some h = ap (λ z. closing q false 1 z) (quote_splits q t after) ∙ closes q t after 1 some h ∙ ap Some (sym (quote_size q t))

pub quote_content : (q : ℕ) (t after : List ℕ) → between q (q ∷ to_quote q t ++ after) (length (q ∷ to_quote q t)) ≡ t
quote_content q t after =
    let size : length (q ∷ to_quote q t) - 2 ≡ length (doubled q t) = omega (arith, quote_size q t) in
    let inner : take (length (doubled q t)) (to_quote q t ++ after) ≡ doubled q t = ap (λ z. take (length (doubled q t)) z) (quote_splits q t after) ∙ take-append_seam (doubled q t) (q ∷ after) in
    ap (λ n. content q false (take n (to_quote q t ++ after))) size ∙ ap (λ z. content q false z) inner ∙ content_doubled q t

pub string_is : (at : ℕ) (t after : List ℕ) → Lacks 39 after → string at (39 ∷ to_quote 39 t ++ after) ≡ string_form t
unfolding string
string_is at t after h =
    ap (λ o. string_or at (39 ∷ to_quote 39 t ++ after) o) (quote_closes 39 t after (omega arith) h) ∙ ap (λ x. Ok (Kind (k.Str x), length (39 ∷ to_quote 39 t))) (quote_content 39 t after)

pub name_is : (at : ℕ) (t after : List ℕ) → Lacks 34 after → quoted at (34 ∷ to_quote 34 t ++ after) ≡ name_form at t
unfolding quoted
name_is at t after h =
    ap (λ o. name_or at (34 ∷ to_quote 34 t ++ after) o) (quote_closes 34 t after (omega arith) h)
    ∙ ap (λ x. cond (length x == 0) (Err (EmptyName at)) (cond (nat_lt 63 (length x)) (Err (NameTooLong at)) (Ok (Kind (k.Quoted x), length (34 ∷ to_quote 34 t))))) (quote_content 34 t after)

-- ---- numbers

abbrev pub number_form : ℕ → ℕ → List ℕ → List ℕ → Front
number_form at b bytes after =
    cond (not (begins_fraction after) && begins is_in_word after) (Err (Junk at))
    (cond (nat_lt most (decimal (b ∷ bytes))) (Err (TooWide at)) (cond (begins_fraction after) (Err (Unsupported at)) (Ok (Kind (k.Number (pos (decimal (b ∷ bytes)))), 1 + length bytes))))

fraction_first : (z : List ℕ) → is_fraction (slice_index z 0) (slice_index z 1) ≡ begins_fraction z
fraction_first [] = refl
fraction_first (b ∷ z) = rw (begins_first is_digit z refl) refl

past_front : (b : ℕ) (bytes after : List ℕ) (i : ℕ) → slice_index (b ∷ bytes ++ after) (1 + length bytes + i) ≡ slice_index after i
past_front b bytes after i = let size : 1 + length bytes + i ≡ length (b ∷ bytes) + i = omega arith in ap (λ n. slice_index (b ∷ bytes ++ after) n) size ∙ get_or-append-add (b ∷ bytes) after i 0

pub number_is : (at b : ℕ) (bytes after : List ℕ) → AllAre is_digit bytes → begins is_digit after ≡ false → number at (b ∷ bytes ++ after) ≡ number_form at b bytes after
unfolding number
number_is at b bytes after all stops =
    let here : slice_index (b ∷ bytes ++ after) (1 + length bytes) ≡ slice_index after 0 = ap (λ n. slice_index (b ∷ bytes ++ after) n) (omega arith) ∙ past_front b bytes after 0 in
    let next : slice_index (b ∷ bytes ++ after) (1 + length bytes + 1) ≡ slice_index after 1 = past_front b bytes after 1 in
    rw (run_len is_digit bytes after all stops, here, next, cut_at b bytes after, fraction_first after, begins_first is_in_word after refl) refl

-- ---- parameters

-- ---- signs

none_of : (o : Option Sign) → is_some o ≡ false → o ≡ None
none_of None e = refl
none_of (Some x) e = absurd (cc)

two_zero : (b : ℕ) → sign_of_two b 0 ≡ None
two_zero b = rw (and_zero (b == 60), and_zero (b == 33), and_zero (b == 62), and_zero (b == 58), and_zero (b == 124)) refl
  where
    and_zero : (x : Bool) → (x && false) ≡ false
    and_zero true = refl
    and_zero false = refl

-- no two bytes are read together in front: no sign of two bytes stands there
pub not_two : (b : ℕ) (z : List ℕ) → begins (is_pair b) z ≡ false → sign_of_two b (slice_index z 0) ≡ None
not_two b [] e = two_zero b
not_two b (c ∷ z) e = none_of (sign_of_two b c) (or_parts (is_some (sign_of_two b c)) (b == 45 && c == 45) (or_parts (is_some (sign_of_two b c) || (b == 45 && c == 45)) (b == 47 && c == 42) e).0).0

pub single_is : (at b : ℕ) (z : List ℕ) (x : Sign) → sign_of b ≡ Some x → begins (is_pair b) z ≡ false → sign at (b ∷ z) ≡ Ok (Kind (k.Sign x), 1)
unfolding sign
single_is at b z x e h = rw (not_two b z h, e) refl

pub none_is : (at b : ℕ) (z : List ℕ) → sign_of b ≡ None → begins (is_pair b) z ≡ false → sign at (b ∷ z) ≡ Err (BadCharacter at)
unfolding sign
none_is at b z e h = rw (not_two b z h, e) refl

pub double_is : (at b c : ℕ) (z : List ℕ) (x : Sign) → sign_of_two b c ≡ Some x → sign at (b ∷ c ∷ z) ≡ Ok (Kind (k.Sign x), 2)
unfolding sign
double_is at b c z x e = rw e refl
