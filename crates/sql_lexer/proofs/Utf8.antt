-- Where a UTF-8 text is cut, and what is made of its parts, is UTF-8 again.
use Rattle.std.proofs.Common.{◌≡◌, ℕ, zero, suc, ◌+◌, ◌-◌, ◌<◌, ◌≤◌, Bool, true, false, cond, List, [], ◌∷◌, ◌++◌, length, take, drop, get_or, Some, ◌⊎◌, inl, inr, refl, ap, sym, ◌∙◌, subst, append_assoc, length-append, lit<, arith}
use Rattle.std.specs.Prelude.{◌==◌, ◌&&◌, ◌||◌, nat_lt, nat_le, slice_index}
use Rattle.std.specs.Char.{to_ascii_lowercase, is_ascii_alphanumeric}
use Rattle.std.specs.Str.{IsUtf8}
use Rattle.std.proofs.lemmas.Bool.{eqb-true, ltb-true, leb-true, leb-false, and_parts, or_parts, or_cases, not-false, cond_both}
use Rattle.std.proofs.lemmas.Str.{IsUtf8-append, IsUtf8-take, IsUtf8-drop, IsUtf8-from_ascii, IsUtf8-nil, IsCharBoundary-before_ascii, IsCharBoundary-after_ascii}
use Rattle.std.proofs.Math.Seq.{take-append_seam, drop-append_seam, get_or-append_seam}
use Rattle.sql_lexer.specs.Bytes.{folded, is_space, is_in_line, is_digit, is_in_word, AllAre, begins}
use Rattle.sql_lexer.specs.Lexemes.{EndsComments, IsGap, IsToken, doubled, to_quote}
use Rattle.sql_lexer.specs.Scan.{closing, content}
use Rattle.sql_lexer.proofs.Quotes.{content_doubled, closing_sound}
use Rattle.sql_lexer.proofs.Plain.{digit_range, sign_plain, sign_plain_two}
use Rattle.sql_tree.specs.declared.token.TokenKind.{TokenKind}

one_byte : (b i : ℕ) → b < 128 → get_or (b ∷ []) i 0 < 128
one_byte b zero h = h
one_byte b (suc i) h = omega arith

-- an ASCII byte is a text
pub ascii : (b : ℕ) → b < 128 → IsUtf8 (b ∷ [])
ascii b h = IsUtf8-from_ascii (b ∷ []) (λ i. one_byte b i h)

seam_low : (a : List ℕ) (b : ℕ) (z : List ℕ) → b < 128 → get_or (a ++ b ∷ z) (length a) 0 < 128
seam_low a b z h = rw (get_or-append_seam a b z 0) h

seam_within : (a : List ℕ) (b : ℕ) (z : List ℕ) → length a < length (a ++ b ∷ z)
seam_within a b z = omega (arith, length-append a (b ∷ z))

-- a text before an ASCII byte
pub before : (a : List ℕ) (b : ℕ) (z : List ℕ) → b < 128 → IsUtf8 (a ++ b ∷ z) → IsUtf8 a
before a b z h u =
    rw (take-append_seam a (b ∷ z)) at (IsUtf8-take (a ++ b ∷ z) (length a) u (IsCharBoundary-before_ascii (a ++ b ∷ z) (length a) (seam_within a b z) (seam_low a b z h)))

-- a text from an ASCII byte on
pub from : (a : List ℕ) (b : ℕ) (z : List ℕ) → b < 128 → IsUtf8 (a ++ b ∷ z) → IsUtf8 (b ∷ z)
from a b z h u =
    rw (drop-append_seam a (b ∷ z)) at (IsUtf8-drop (a ++ b ∷ z) (length a) u (IsCharBoundary-before_ascii (a ++ b ∷ z) (length a) (seam_within a b z) (seam_low a b z h)))

-- a text after an ASCII byte at its front
pub following : (b : ℕ) (z : List ℕ) → b < 128 → IsUtf8 (b ∷ z) → IsUtf8 z
following b z h u = IsUtf8-drop (b ∷ z) 1 u (IsCharBoundary-after_ascii (b ∷ z) 0 u (omega arith) h)

-- a text without the doubling of a quote
doubled_step : (q b : ℕ) (a t : List ℕ) → q < 128 → ((a : List ℕ) → IsUtf8 (a ++ doubled q t) → IsUtf8 (a ++ t)) → (v : Bool) → (b == q) ≡ v
    → IsUtf8 (a ++ cond v (q ∷ q ∷ doubled q t) (b ∷ doubled q t)) → IsUtf8 (a ++ b ∷ t)
doubled_step q b a t h again true e u =
    let same : b ≡ q = eqb-true b q e in
    let low : b < 128 = omega arith in
    let rest = again [] (following q (doubled q t) h (following q (q ∷ doubled q t) h (from a q (q ∷ doubled q t) h u))) in
    IsUtf8-append a (b ∷ t) (before a q (q ∷ doubled q t) h u) (IsUtf8-append (b ∷ []) t (ascii b low) rest)
doubled_step q b a t h again false e u =
    let P : List ℕ → Type 0 = λ z. IsUtf8 z in
    let one : (a ++ b ∷ []) ++ doubled q t ≡ a ++ b ∷ doubled q t = simp append_assoc in
    let two : (a ++ b ∷ []) ++ t ≡ a ++ b ∷ t = simp append_assoc in
    subst P two (again (a ++ b ∷ []) (subst P (sym one) u))

pub doubled_within : (q : ℕ) (a t : List ℕ) → q < 128 → IsUtf8 (a ++ doubled q t) → IsUtf8 (a ++ t)
doubled_within q a [] h u = u
doubled_within q a (b ∷ t) h u = doubled_step q b a t h (λ c w. doubled_within q c t h w) (b == q) refl u

-- ASCII capitals alone are changed, and into ASCII letters
same_or_low : (b : ℕ) → (to_ascii_lowercase b ≡ b) ⊎ ((b < 128) × (to_ascii_lowercase b < 128))
same_or_low b =
    let P : ℕ → Type 0 = λ v. (v ≡ b) ⊎ ((b < 128) × (v < 128)) in
    cond_both (nat_lt b 65) b (cond (nat_lt b 91) (b + 32) b) P (λ _. inl refl) (λ _. cond_both (nat_lt b 91) (b + 32) b P (λ e. let h : b < 91 = ltb-true b 91 e in inr (omega arith, omega arith)) (λ _. inl refl))

folded_step : (b : ℕ) (a z : List ℕ) → ((a : List ℕ) → IsUtf8 (a ++ z) → IsUtf8 (a ++ folded z)) → IsUtf8 (a ++ b ∷ z) → (to_ascii_lowercase b ≡ b) ⊎ ((b < 128) × (to_ascii_lowercase b < 128))
    → IsUtf8 (a ++ to_ascii_lowercase b ∷ folded z)
folded_step b a z again u (inl e) =
    let P : List ℕ → Type 0 = λ y. IsUtf8 y in
    let one : (a ++ b ∷ []) ++ z ≡ a ++ b ∷ z = simp append_assoc in
    let two : (a ++ b ∷ []) ++ folded z ≡ a ++ b ∷ folded z = simp append_assoc in
    subst P (ap (λ x. a ++ x ∷ folded z) (sym e)) (subst P two (again (a ++ b ∷ []) (subst P (sym one) u)))
folded_step b a z again u (inr h) =
    IsUtf8-append a (to_ascii_lowercase b ∷ folded z) (before a b z h.0 u)
    (IsUtf8-append (to_ascii_lowercase b ∷ []) (folded z) (ascii (to_ascii_lowercase b) h.1) (again [] (following b z h.0 (from a b z h.0 u))))

folded_within : (a z : List ℕ) → IsUtf8 (a ++ z) → IsUtf8 (a ++ folded z)
folded_within a [] u = u
folded_within a (b ∷ z) u = folded_step b a z (λ c w. folded_within c z w) u (same_or_low b)

-- a folded text
pub folded_text : (z : List ℕ) → IsUtf8 z → IsUtf8 (folded z)
folded_text z u = folded_within [] z u

-- what stands between quotes
pub content_text : (q : ℕ) (z : List ℕ) (end : ℕ) → 1 ≤ q → q < 128 → IsUtf8 z → slice_index z 0 ≡ q → closing q false 1 (drop 1 z) ≡ Some end → IsUtf8 (content q false (take (end - 1 - 1) (drop 1 z)))
content_text q [] end some h u e f = absurd (omega arith)
content_text q (b ∷ r) end some h u e f =
    let P : List ℕ → Type 0 = λ y. IsUtf8 y in
    let low : b < 128 = omega arith in
    let c = closing_sound q 1 r end f in
    let place = c.place in
    let size : end - 1 - 1 ≡ length (doubled q c.text) = omega arith in
    let inner : take (end - 1 - 1) r ≡ doubled q c.text = ap (λ y. take (end - 1 - 1) y) c.splits ∙ ap (λ n. take n (doubled q c.text ++ q ∷ c.after)) size ∙ take-append_seam (doubled q c.text) (q ∷ c.after) in
    let value : content q false (take (end - 1 - 1) r) ≡ c.text = ap (λ y. content q false y) inner ∙ content_doubled q c.text in
    subst P (sym value) (doubled_within q [] c.text h (before (doubled q c.text) q c.after h (subst P c.splits (following b r low u))))

-- what a word doesn't go on with is ASCII
pub past_word_low : (b : ℕ) → is_in_word b ≡ false → b < 128
past_word_low b e = leb-false 128 b ((or_parts (is_ascii_alphanumeric b || b == 95 || b == 36) (nat_le 128 b) e).1)

-- a word
pub word_text : (z : List ℕ) (end : ℕ) → IsUtf8 z → end ≤ length z → (end < length z → is_in_word (slice_index z end) ≡ false) → IsUtf8 (take end z)
word_text z end u within stops = IsUtf8-take z end u (within, λ lt high. let low = past_word_low (slice_index z end) (stops lt) in omega arith)

-- ---- after a lexeme

run_after : (p : ℕ → Bool) → ((b : ℕ) → p b ≡ true → b < 128) → (bytes after : List ℕ) → AllAre p bytes → IsUtf8 (bytes ++ after) → IsUtf8 after
run_after p low [] after all u = u
run_after p low (b ∷ bytes) after all u = run_after p low bytes after all.1 (following b (bytes ++ after) (low b all.0) u)

run_before : (p : ℕ → Bool) → ((b : ℕ) → p b ≡ false → b < 128) → (bytes after : List ℕ) → begins p after ≡ false → IsUtf8 (bytes ++ after) → IsUtf8 after
run_before p low bytes [] stops u = IsUtf8-nil
run_before p low bytes (b ∷ after) stops u = from bytes b after (low b stops) u

space_low : (b : ℕ) → is_space b ≡ true → b < 128
space_low b e = low (or_cases (b == 32) (nat_le 9 b && nat_le b 13) e)
  where
    low : ((b == 32) ≡ true) ⊎ ((nat_le 9 b && nat_le b 13) ≡ true) → b < 128
    low (inl h) = let f = eqb-true b 32 h in omega arith
    low (inr h) = let f : b ≤ 13 = leb-true b 13 (and_parts (nat_le 9 b) (nat_le b 13) h).1 in omega arith

line_end_low : (b : ℕ) → is_in_line b ≡ false → b < 128
line_end_low b e = low (or_cases (b == 10) (b == 13) (not-false (b == 10 || b == 13) e))
  where
    low : ((b == 10) ≡ true) ⊎ ((b == 13) ≡ true) → b < 128
    low (inl h) = let f = eqb-true b 10 h in omega arith
    low (inr h) = let f = eqb-true b 13 h in omega arith

digit_low : (b : ℕ) → is_digit b ≡ true → b < 128
digit_low b e = let r = digit_range b e in omega arith

comment_after : {n : ℕ} {bytes : List ℕ} → EndsComments n bytes → (a after : List ℕ) → IsUtf8 (a ++ (bytes ++ after)) → IsUtf8 after
comment_after EndsComments.ended a after u = following 47 after (lit< tt) (following 42 (47 ∷ after) (lit< tt) (from a 42 (47 ∷ after) (lit< tt) u))
comment_after (EndsComments.inner_ended n z e) a after u = comment_after e [] after (following 47 (z ++ after) (lit< tt) (following 42 (47 ∷ z ++ after) (lit< tt) (from a 42 (47 ∷ z ++ after) (lit< tt) u)))
comment_after (EndsComments.inner_begun n z e) a after u = comment_after e [] after (following 42 (z ++ after) (lit< tt) (following 47 (42 ∷ z ++ after) (lit< tt) (from a 47 (42 ∷ z ++ after) (lit< tt) u)))
comment_after (EndsComments.other n b c z x y e) a after u =
    let P : List ℕ → Type 0 = λ z. IsUtf8 z in
    let one : (a ++ b ∷ []) ++ (c ∷ z ++ after) ≡ a ++ (b ∷ c ∷ z ++ after) = simp append_assoc in
    comment_after e (a ++ b ∷ []) after (subst P (sym one) u)

-- what comes after white space or a comment is a text
pub gap_after : {bytes after : List ℕ} → IsGap bytes after → IsUtf8 (bytes ++ after) → IsUtf8 after
gap_after (IsGap.space b bytes after start all stops) u = run_after is_space space_low (b ∷ bytes) after (start, all) u
gap_after (IsGap.line bytes after all stops) u = run_before is_in_line line_end_low (45 ∷ 45 ∷ bytes) after stops u
gap_after (IsGap.comment bytes after ends) u = comment_after ends (47 ∷ 42 ∷ []) after u

quote_after : (q : ℕ) (t after : List ℕ) → q < 128 → IsUtf8 (q ∷ to_quote q t ++ after) → IsUtf8 after
quote_after q t after h u =
    let P : List ℕ → Type 0 = λ z. IsUtf8 z in
    let regroup : to_quote q t ++ after ≡ doubled q t ++ q ∷ after = simp append_assoc in
    following q after h (from (doubled q t) q after h (subst P regroup (following q (to_quote q t ++ after) h u)))

-- what comes after a token is a text
pub token_after : {joined : Bool} {bytes after : List ℕ} {kind : TokenKind} → IsToken joined bytes after kind → IsUtf8 (bytes ++ after) → IsUtf8 after
token_after (IsToken.word joined b bytes after start all stops short free) u = run_before is_in_word past_word_low (b ∷ bytes) after stops u
token_after (IsToken.quoted joined name after lacks some short) u = quote_after 34 name after (lit< tt) u
token_after (IsToken.string joined text after lacks) u = quote_after 39 text after (lit< tt) u
token_after (IsToken.number joined b bytes after start all stops whole fits) u = run_after is_digit digit_low (b ∷ bytes) after (start, all) u
token_after (IsToken.parameter joined b bytes after start all short full) u = run_after is_digit digit_low (b ∷ bytes) after (start, all) (following 36 (b ∷ bytes ++ after) (lit< tt) u)
token_after (IsToken.sign joined b after x e single) u = let p = sign_plain b x e in following b after p.low u
token_after (IsToken.sign_of_two_bytes joined b c after x e) u = let p = sign_plain_two b c x e in following c after p.low (following b (c ∷ after) p.plain.low u)
token_after (IsToken.point joined after e) u = following 46 after (lit< tt) u
