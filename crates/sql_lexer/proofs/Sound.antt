-- What is found at the front of a text stands there.
use Rattle.std.proofs.Common.{◌≡◌, ℕ, ◌+◌, ◌-◌, ◌<◌, ◌≤◌, Bool, true, false, not, ◌&&◌, ◌||◌, List, [], ◌∷◌, ◌++◌, length, take, drop, Option, Some, None, Ok, Err, refl, ap, sym, ◌∙◌, subst, append_assoc, length-append, length-drop, arith}
use Rattle.std.specs.Prelude.{◌==◌, nat_lt, slice_index, is_some}
use Rattle.std.specs.List.{prefix_len}
use Rattle.std.proofs.lemmas.Bool.{eqb-true, eqb-false, ltb-true, ltb-false, and_parts, or_from, not_from_false, not-true, false_from_ne_true, cond_both}
use Rattle.std.proofs.lemmas.List.{take-append-drop, length-take}
use Rattle.std.proofs.Math.Seq.{take-append_seam}
use Rattle.sql_tree.specs.declared.token.Sign.{Sign}
use Rattle.sql_tree.specs.declared.token.TokenKind.{TokenKind}
use Rattle.sql_tree.specs.declared.token.TokenKind.TheVariants as k
use Rattle.sql_lexer.specs.declared.fault.LexFault.TheVariants.{UnclosedComment, EmptyName, Unsupported}
use Rattle.sql_lexer.specs.declared.piece.Piece.{Piece}
use Rattle.sql_lexer.specs.declared.piece.Piece.TheVariants.{Gap, Kind}
use Rattle.sql_lexer.specs.declared.scan.Class.TheVariants as class
use Rattle.sql_lexer.specs.Bytes.{is_space, is_in_line, is_digit, begins_word, is_in_word, is_prefix, AllAre, begins, begins_fraction, decimal}
use Rattle.sql_lexer.specs.Lexemes.{IsGap, IsToken, IsFaultAt, Unclosed, doubled, to_quote, sign_of, sign_of_two, is_pair, begins_nothing, most}
use Rattle.sql_lexer.specs.Scan.{past, closing, comment_from}
use Rattle.sql_lexer.specs.Front.{Front, comment_piece, gap_or, word, string, string_or, quoted, name_or, number, param, point, sign, piece}
use Rattle.sql_lexer.proofs.Runs.{run_of, begins_first}
use Rattle.sql_lexer.proofs.Comments.{comment_found, comment_ends}
use Rattle.sql_lexer.proofs.Quotes.{Lacks, closing_sound}
use Rattle.sql_lexer.proofs.Forms.{word_form, word_is, name_form, name_is, string_is, quote_closes, number_form, number_is, single_is, none_is, double_is}
use Rattle.sql_lexer.proofs.Plain.{chosen_all}

-- white space or a comment of this length stands in front
pub record GapFront (z : List ℕ) (len : ℕ) : Type 0 where
  pub bytes : List ℕ
  pub after : List ℕ
  pub splits : z ≡ bytes ++ after
  pub size : len ≡ length bytes
  pub is : IsGap bytes after

-- the token of this length stands in front
pub record TokenFront (joined : Bool) (z : List ℕ) (len : ℕ) (kind : TokenKind) : Type 0 where
  pub bytes : List ℕ
  pub after : List ℕ
  pub splits : z ≡ bytes ++ after
  pub size : len ≡ length bytes
  pub is : IsToken joined bytes after kind

abbrev pub PieceFront : Bool → List ℕ → Piece → ℕ → Type 0
PieceFront joined z Gap len = GapFront z len
PieceFront joined z (Kind kind) len = TokenFront joined z len kind

-- what is found stands in front
abbrev pub IsSound : Bool → ℕ → List ℕ → Front → Type 0
IsSound joined at z (Ok p) = PieceFront joined z p.0 p.1
IsSound joined at z (Err f) = IsFaultAt joined at z f

first_is : (z : List ℕ) (c : ℕ) → 1 ≤ c → slice_index z 0 ≡ c → z ≡ c ∷ drop 1 z
first_is [] c some e = absurd (omega arith)
first_is (b ∷ z) c some e = ap (λ x. x ∷ z) e

first_test : (z : List ℕ) (c : ℕ) → 1 ≤ c → (slice_index z 0 == c) ≡ true → z ≡ c ∷ drop 1 z
first_test z c some e = first_is z c some (eqb-true (slice_index z 0) c e)

-- ---- white space and comments

sound_space : (joined : Bool) (at b : ℕ) (z : List ℕ) → is_space b ≡ true → IsSound joined at (b ∷ z) (Ok (Gap, past class.Space (b ∷ z) 1))
sound_space joined at b z e =
    let r = run_of is_space z in
    let long = r.long in
    record { bytes = b ∷ r.front; after = r.after; splits = ap (λ y. b ∷ y) r.splits; size = omega arith; is = IsGap.space b r.front r.after e r.all r.stops }

line_front : (z : List ℕ) → GapFront (45 ∷ 45 ∷ z) (past class.Line (45 ∷ 45 ∷ z) 2)
line_front z =
    let r = run_of is_in_line z in
    let long = r.long in
    record { bytes = 45 ∷ 45 ∷ r.front; after = r.after; splits = ap (λ y. 45 ∷ 45 ∷ y) r.splits; size = omega arith; is = IsGap.line r.front r.after r.all r.stops }

sound_line : (joined : Bool) (at b : ℕ) (z : List ℕ) → (b == 45 && slice_index z 0 == 45) ≡ true → IsSound joined at (b ∷ z) (Ok (Gap, past class.Line (b ∷ z) 2))
sound_line joined at b z e =
    let p = and_parts (b == 45) (slice_index z 0 == 45) e in
    let P : List ℕ → Type 0 = λ y. GapFront y (past class.Line y 2) in
    let text : 45 ∷ 45 ∷ drop 1 z ≡ b ∷ z = ap (λ y. 45 ∷ y) (sym (first_test z 45 (omega arith) p.1)) ∙ ap (λ x. x ∷ z) (sym (eqb-true b 45 p.0)) in
    subst P text (line_front (drop 1 z))

comment_at : (joined : Bool) (at : ℕ) (z : List ℕ) (o : Option ℕ) → comment_from 0 false 2 z ≡ o → IsSound joined at (47 ∷ 42 ∷ z) (gap_or (UnclosedComment at) o)
comment_at joined at z None e =
    IsFaultAt.unclosed_comment joined at z (λ bytes after splits ends. let f : comment_from 0 false 2 z ≡ Some (2 + length bytes) = ap (λ y. comment_from 0 false 2 y) splits ∙ comment_found ends 2 after in cc)
comment_at joined at z (Some end) e =
    let c = comment_ends 0 2 z end e in
    let place = c.place in
    record { bytes = 47 ∷ 42 ∷ c.bytes; after = c.after; splits = ap (λ y. 47 ∷ 42 ∷ y) c.splits; size = omega arith; is = IsGap.comment c.bytes c.after c.ends }

sound_comment : (joined : Bool) (at b : ℕ) (z : List ℕ) → (b == 47 && slice_index z 0 == 42) ≡ true → IsSound joined at (b ∷ z) (comment_piece at (b ∷ z))
unfolding comment_piece
sound_comment joined at b z e =
    let p = and_parts (b == 47) (slice_index z 0 == 42) e in
    let P : List ℕ → Type 0 = λ y. IsSound joined at y (gap_or (UnclosedComment at) (comment_from 0 false 2 (drop 2 y))) in
    let text : 47 ∷ 42 ∷ drop 1 z ≡ b ∷ z = ap (λ y. 47 ∷ y) (sym (first_test z 42 (omega arith) p.1)) ∙ ap (λ x. x ∷ z) (sym (eqb-true b 47 p.0)) in
    subst P text (comment_at joined at (drop 1 z) (comment_from 0 false 2 (drop 1 z)) refl)

-- ---- words

no_bytes : (z : List ℕ) → (1 + length z == 1) ≡ true → z ≡ []
no_bytes [] e = refl
no_bytes (b ∷ z) e = let h = eqb-true (1 + length (b ∷ z)) 1 e in absurd (omega arith)

not_all : (x y z : Bool) → ((x && y) && z) ≡ false → x ≡ true → y ≡ true → z ≡ false
not_all x y z e f g = rw (f, g) at e

size_one : (z : List ℕ) → z ≡ [] → (1 + length z == 1) ≡ true
size_one z e = rw e refl

unprefixed : (b : ℕ) (bytes after : List ℕ) → (1 + length bytes == 1 && is_prefix b && slice_index (bytes ++ after) 0 == 39) ≡ false → bytes ≡ [] → is_prefix b ≡ true → begins (λ c. c == 39) after ≡ false
unprefixed b bytes after e none prefix =
    let next : (slice_index (bytes ++ after) 0 == 39) ≡ false = not_all (1 + length bytes == 1) (is_prefix b) (slice_index (bytes ++ after) 0 == 39) e (size_one bytes none) prefix in
    let here : (slice_index after 0 == 39) ≡ false = ap (λ y. slice_index (y ++ after) 0 == 39) (sym none) ∙ next in
    sym (begins_first (λ c. c == 39) after refl) ∙ here

prefixed : (joined : Bool) (at b : ℕ) (bytes after : List ℕ) → (1 + length bytes == 1 && is_prefix b && slice_index (bytes ++ after) 0 == 39) ≡ true → IsFaultAt joined at (b ∷ bytes ++ after) (Unsupported at)
prefixed joined at b bytes after e =
    let p = and_parts (1 + length bytes == 1 && is_prefix b) (slice_index (bytes ++ after) 0 == 39) e in
    let q = and_parts (1 + length bytes == 1) (is_prefix b) p.0 in
    let P : List ℕ → Type 0 = λ y. IsFaultAt joined at (b ∷ y) (Unsupported at) in
    subst P (sym (first_test (bytes ++ after) 39 (omega arith) p.1)) (IsFaultAt.prefixed_string joined at b (drop 1 (bytes ++ after)) q.1)

word_at : (joined : Bool) (at b : ℕ) (bytes after : List ℕ) → begins_word b ≡ true → AllAre is_in_word bytes → begins is_in_word after ≡ false → IsSound joined at (b ∷ bytes ++ after) (word_form at b bytes after)
word_at joined at b bytes after start all stops =
    let P : Front → Type 0 = λ f. IsSound joined at (b ∷ bytes ++ after) f in
    let test = 1 + length bytes == 1 && is_prefix b && slice_index (bytes ++ after) 0 == 39 in
    cond_both test _ _ P (prefixed joined at b bytes after)
    (λ e. cond_both (nat_lt 63 (1 + length bytes)) _ _ P
    (λ h. let long : 63 < 1 + length bytes = ltb-true 63 (1 + length bytes) h in IsFaultAt.long_word joined at b bytes after start all stops (omega arith))
    (λ h. let short : 1 + length bytes ≤ 63 = ltb-false 63 (1 + length bytes) h in
    record { bytes = b ∷ bytes; after = after; splits = refl; size = omega arith; is = IsToken.word joined b bytes after start all stops (omega arith) (unprefixed b bytes after e) }))

sound_word : (joined : Bool) (at b : ℕ) (z : List ℕ) → begins_word b ≡ true → IsSound joined at (b ∷ z) (word at (b ∷ z))
sound_word joined at b z start =
    let r = run_of is_in_word z in
    let P : List ℕ → Type 0 = λ y. IsSound joined at (b ∷ y) (word at (b ∷ y)) in
    let Q : Front → Type 0 = λ f. IsSound joined at (b ∷ r.front ++ r.after) f in
    subst P (sym r.splits) (subst Q (sym (word_is at b r.front r.after r.all r.stops)) (word_at joined at b r.front r.after start r.all r.stops))

-- ---- quoted parts

quote_front : (q : ℕ) (z t after : List ℕ) → z ≡ doubled q t ++ q ∷ after → z ≡ to_quote q t ++ after
quote_front q z t after e = let regroup : to_quote q t ++ after ≡ doubled q t ++ q ∷ after = simp append_assoc in e ∙ sym regroup

none_closes : (q : ℕ) (z : List ℕ) → 1 ≤ q → closing q false 1 z ≡ None → Unclosed q z
none_closes q z some e t after splits lacks =
    let f : closing q false 1 z ≡ Some (length (q ∷ to_quote q t)) = ap (λ y. closing q false 1 y) splits ∙ quote_closes q t after some lacks in cc

string_at : (joined : Bool) (at : ℕ) (z : List ℕ) (o : Option ℕ) → closing 39 false 1 z ≡ o → IsSound joined at (39 ∷ z) (string at (39 ∷ z))
unfolding string
string_at joined at z None e =
    let Q : Option ℕ → Type 0 = λ o. IsSound joined at (39 ∷ z) (string_or at (39 ∷ z) o) in
    subst Q (sym e) (IsFaultAt.unclosed_string joined at z (none_closes 39 z (omega arith) e))
string_at joined at z (Some end) e =
    let c = closing_sound 39 1 z end e in
    let P : List ℕ → Type 0 = λ y. IsSound joined at (39 ∷ y) (string at (39 ∷ y)) in
    let Q : Front → Type 0 = λ f. IsSound joined at (39 ∷ to_quote 39 c.text ++ c.after) f in
    subst P (sym (quote_front 39 z c.text c.after c.splits))
    (subst Q (sym (string_is at c.text c.after c.lacks)) (record { bytes = 39 ∷ to_quote 39 c.text; after = c.after; splits = refl; size = refl; is = IsToken.string joined c.text c.after c.lacks }))

name_at : (joined : Bool) (at : ℕ) (t after : List ℕ) → Lacks 34 after → IsSound joined at (34 ∷ to_quote 34 t ++ after) (name_form at t)
name_at joined at t after lacks =
    let P : Front → Type 0 = λ f. IsSound joined at (34 ∷ to_quote 34 t ++ after) f in
    cond_both (length t == 0) _ _ P (λ e. empty t (eqb-true (length t) 0 e))
    (λ e. cond_both (nat_lt 63 (length t)) _ _ P
    (λ h. IsFaultAt.long_name joined at t after lacks (ltb-true 63 (length t) h))
    (λ h. record { bytes = 34 ∷ to_quote 34 t; after = after; splits = refl; size = refl; is = IsToken.quoted joined t after lacks (some t (eqb-false (length t) 0 e)) (ltb-false 63 (length t) h) }))
  where
    empty : (t : List ℕ) → length t ≡ 0 → IsFaultAt joined at (34 ∷ to_quote 34 t ++ after) (EmptyName at)
    empty [] e = IsFaultAt.empty_name joined at after lacks
    empty (b ∷ t) e = absurd (omega arith)

    some : (t : List ℕ) → (length t ≡ 0 → ⊥) → 1 ≤ length t
    some [] e = absurd (e refl)
    some (b ∷ t) e = omega arith

quoted_at : (joined : Bool) (at : ℕ) (z : List ℕ) (o : Option ℕ) → closing 34 false 1 z ≡ o → IsSound joined at (34 ∷ z) (quoted at (34 ∷ z))
unfolding quoted
quoted_at joined at z None e =
    let Q : Option ℕ → Type 0 = λ o. IsSound joined at (34 ∷ z) (name_or at (34 ∷ z) o) in
    subst Q (sym e) (IsFaultAt.unclosed_name joined at z (none_closes 34 z (omega arith) e))
quoted_at joined at z (Some end) e =
    let c = closing_sound 34 1 z end e in
    let P : List ℕ → Type 0 = λ y. IsSound joined at (34 ∷ y) (quoted at (34 ∷ y)) in
    let Q : Front → Type 0 = λ f. IsSound joined at (34 ∷ to_quote 34 c.text ++ c.after) f in
    subst P (sym (quote_front 34 z c.text c.after c.splits)) (subst Q (sym (name_is at c.text c.after c.lacks)) (name_at joined at c.text c.after c.lacks))

-- ---- numbers

number_at : (joined : Bool) (at b : ℕ) (bytes after : List ℕ) → is_digit b ≡ true → AllAre is_digit bytes → begins is_digit after ≡ false → IsSound joined at (b ∷ bytes ++ after) (number_form at b bytes after)
number_at joined at b bytes after start all stops =
    let P : Front → Type 0 = λ f. IsSound joined at (b ∷ bytes ++ after) f in
    let n = decimal (b ∷ bytes) in
    cond_both (not (begins_fraction after) && begins is_in_word after) _ _ P
    (λ e. let p = and_parts (not (begins_fraction after)) (begins is_in_word after) e in IsFaultAt.junk joined at b bytes after start all stops (not-true (begins_fraction after) p.0) p.1)
    (λ e. cond_both (nat_lt most n) _ _ P
    (λ h. IsFaultAt.too_wide joined at b bytes after start all stops (goes_on (begins_fraction after) (begins is_in_word after) e) (ltb-true most n h))
    (λ h. cond_both (begins_fraction after) _ _ P
    (λ f. IsFaultAt.fraction joined at b bytes after start all stops f (ltb-false most n h))
    (λ f. record { bytes = b ∷ bytes; after = after; splits = refl; size = omega arith; is = IsToken.number joined b bytes after start all (no_junk (begins_fraction after) (begins is_in_word after) e f) f (ltb-false most n h) })))
  where
    goes_on : (x y : Bool) → (not x && y) ≡ false → y ≡ true → x ≡ true
    goes_on true y e f = refl
    goes_on false y e f = absurd (cc)

    no_junk : (x y : Bool) → (not x && y) ≡ false → x ≡ false → y ≡ false
    no_junk true y e f = absurd (cc)
    no_junk false y e f = e

sound_number : (joined : Bool) (at b : ℕ) (z : List ℕ) → is_digit b ≡ true → IsSound joined at (b ∷ z) (number at (b ∷ z))
sound_number joined at b z start =
    let r = run_of is_digit z in
    let P : List ℕ → Type 0 = λ y. IsSound joined at (b ∷ y) (number at (b ∷ y)) in
    let Q : Front → Type 0 = λ f. IsSound joined at (b ∷ r.front ++ r.after) f in
    subst P (sym r.splits) (subst Q (sym (number_is at b r.front r.after r.all r.stops)) (number_at joined at b r.front r.after start r.all r.stops))

-- ---- parameters

param_token : (joined : Bool) (front after : List ℕ) → AllAre is_digit front → 1 ≤ length front → length front ≤ 5 → (begins is_digit after ≡ true → length front ≡ 5) → IsToken joined (36 ∷ front) after (k.Param (decimal front))
param_token joined [] after all some short full = absurd (omega arith)
param_token joined (b ∷ bytes) after all some short full = IsToken.parameter joined b bytes after all.0 all.1 short full

-- five bytes are taken, or all
full_or_last : (z front after : List ℕ) → take 5 z ≡ front ++ after → begins is_digit after ≡ false → begins is_digit (after ++ drop 5 z) ≡ true → length front ≡ 5
full_or_last z front (c ∷ after) e stops h = absurd (let f : true ≡ false = sym h ∙ stops in cc)
full_or_last z front [] e stops h =
    let long : length (take 5 z) ≡ length front + 0 = ap length e ∙ length-append front [] in
    omega (arith, long, length-take 5 z, more (drop 5 z) h, length-drop 5 z)
  where
    more : (y : List ℕ) → begins is_digit y ≡ true → 1 ≤ length y
    more [] h = absurd (cc)
    more (b ∷ y) h = omega arith

no_digit : (z : List ℕ) → prefix_len is_digit (take 5 z) ≡ 0 → begins is_digit z ≡ false
no_digit [] e = refl
no_digit (b ∷ z) e = false_from_ne_true (is_digit b) (λ h. let f : 1 + prefix_len is_digit (take 4 z) ≡ 0 = rw h at e in omega arith)

sound_param : (joined : Bool) (at : ℕ) (z : List ℕ) → IsSound joined at (36 ∷ z) (param at (36 ∷ z))
unfolding param
sound_param joined at z =
    let d = take 5 z in
    let n = prefix_len is_digit d in
    let P : Front → Type 0 = λ f. IsSound joined at (36 ∷ z) f in
    let r = run_of is_digit d in
    cond_both (1 + n == 1) _ _ P
    (λ e. let one = eqb-true (1 + n) 1 e in let none : n ≡ 0 = omega arith in IsFaultAt.dollar joined at z (no_digit z none))
    (λ e.
    let some : 1 ≤ n = positive n e in
    let long : n ≡ length r.front = r.long in
    let short : length r.front ≤ 5 = omega (arith, ap length r.splits, length-append r.front r.after, length-take 5 z) in
    let less : 1 + n - 1 ≡ length r.front = omega arith in
    let inner : take (1 + n - 1) d ≡ r.front = ap (λ m. take m d) less ∙ ap (λ y. take (length r.front) y) r.splits ∙ take-append_seam r.front r.after in
    let regroup : (r.front ++ r.after) ++ drop 5 z ≡ r.front ++ (r.after ++ drop 5 z) = simp append_assoc in
    let whole : z ≡ r.front ++ (r.after ++ drop 5 z) = sym (take-append-drop 5 z) ∙ ap (λ y. y ++ drop 5 z) r.splits ∙ regroup in
    let Q : ℕ → Type 0 = λ m. IsToken joined (36 ∷ r.front) (r.after ++ drop 5 z) (k.Param m) in
    record {
      bytes = 36 ∷ r.front;
      after = r.after ++ drop 5 z;
      splits = ap (λ y. 36 ∷ y) whole;
      size = omega arith;
      is = subst Q (sym (ap decimal inner)) (param_token joined r.front (r.after ++ drop 5 z) r.all (omega arith) short (full_or_last z r.front r.after r.splits r.stops));
    })
  where
    positive : (n : ℕ) → (1 + n == 1) ≡ false → 1 ≤ n
    positive n e = let h = eqb-false (1 + n) 1 e in omega arith

-- ---- signs

leading : (joined : Bool) (at : ℕ) (z : List ℕ) → not joined ≡ true → is_digit (slice_index z 0) ≡ true → IsFaultAt joined at (46 ∷ z) (Unsupported at)
leading true at z e f = absurd (cc)
leading false at [] e f = absurd (cc)
leading false at (b ∷ z) e f = IsFaultAt.leading_point at b z f

sound_point : (joined : Bool) (at : ℕ) (z : List ℕ) → IsSound joined at (46 ∷ z) (point joined at (46 ∷ z))
unfolding point
sound_point joined at z =
    let P : Front → Type 0 = λ f. IsSound joined at (46 ∷ z) f in
    cond_both (not joined && is_digit (slice_index z 0)) _ _ P
    (λ e. let p = and_parts (not joined) (is_digit (slice_index z 0)) e in leading joined at z p.0 p.1)
    (λ e. record { bytes = 46 ∷ []; after = z; splits = refl; size = refl; is = IsToken.point joined z (rw (begins_first is_digit z refl) at e) })

sign_last : (joined : Bool) (at b : ℕ) (z : List ℕ) → begins (is_pair b) z ≡ false → (is_some (sign_of b) ≡ false → begins_nothing b ≡ true) → (o : Option Sign) → sign_of b ≡ o → IsSound joined at (b ∷ z) (sign at (b ∷ z))
sign_last joined at b z single nothing None e =
    let P : Front → Type 0 = λ f. IsSound joined at (b ∷ z) f in
    subst P (sym (none_is at b z e single)) (IsFaultAt.bad joined at b z (nothing (ap is_some e)) single)
sign_last joined at b z single nothing (Some x) e =
    let P : Front → Type 0 = λ f. IsSound joined at (b ∷ z) f in
    subst P (sym (single_is at b z x e single)) (record { bytes = b ∷ []; after = z; splits = refl; size = refl; is = IsToken.sign joined b z x e single })

sign_next : (joined : Bool) (at b c : ℕ) (z : List ℕ) → (b == 45 && c == 45) ≡ false → (b == 47 && c == 42) ≡ false → (is_some (sign_of b) ≡ false → begins_nothing b ≡ true) → (o : Option Sign) → sign_of_two b c ≡ o
    → IsSound joined at (b ∷ c ∷ z) (sign at (b ∷ c ∷ z))
sign_next joined at b c z line comment nothing None e =
    let pair : is_pair b c ≡ false = or_from (is_some (sign_of_two b c) || (b == 45 && c == 45)) (b == 47 && c == 42) (or_from (is_some (sign_of_two b c)) (b == 45 && c == 45) (ap is_some e) line) comment in
    sign_last joined at b (c ∷ z) pair nothing (sign_of b) refl
sign_next joined at b c z line comment nothing (Some x) e =
    let P : Front → Type 0 = λ f. IsSound joined at (b ∷ c ∷ z) f in
    subst P (sym (double_is at b c z x e)) (record { bytes = b ∷ c ∷ []; after = z; splits = refl; size = refl; is = IsToken.sign_of_two_bytes joined b c z x e })

sound_sign : (joined : Bool) (at b : ℕ) (z : List ℕ) → is_space b ≡ false → begins_word b ≡ false → (b == 34) ≡ false → (b == 39) ≡ false → is_digit b ≡ false → (b == 36) ≡ false → (b == 46) ≡ false
    → (b == 45 && slice_index z 0 == 45) ≡ false → (b == 47 && slice_index z 0 == 42) ≡ false → IsSound joined at (b ∷ z) (sign at (b ∷ z))
sound_sign joined at b z e0 e1 e2 e3 e4 e5 e6 line comment = by_next z line comment
  where
    nothing : is_some (sign_of b) ≡ false → begins_nothing b ≡ true
    nothing e =
        not_from_false (is_space b || begins_word b || is_digit b || b == 34 || b == 39 || b == 36 || b == 46 || is_some (sign_of b))
        (or_from _ (is_some (sign_of b)) (or_from _ (b == 46) (or_from _ (b == 36) (or_from _ (b == 39) (or_from _ (b == 34) (or_from _ (is_digit b) (or_from (is_space b) (begins_word b) e0 e1) e4) e2) e3) e5) e6) e)

    by_next : (z : List ℕ) → (b == 45 && slice_index z 0 == 45) ≡ false → (b == 47 && slice_index z 0 == 42) ≡ false → IsSound joined at (b ∷ z) (sign at (b ∷ z))
    by_next [] x y = sign_last joined at b [] refl nothing (sign_of b) refl
    by_next (c ∷ z) x y = sign_next joined at b c z x y nothing (sign_of_two b c) refl

-- ---- all

pub piece_sound : (joined : Bool) (at b : ℕ) (z : List ℕ) → IsSound joined at (b ∷ z) (piece joined at (b ∷ z))
unfolding piece
piece_sound joined at b z =
    let P : Front → Type 0 = λ f. IsSound joined at (b ∷ z) f in
    let Q : (ℕ → Front) → ℕ → Type 0 = λ f x. IsSound joined at (x ∷ z) (f x) in
    chosen_all P b (slice_index z 0) (Ok (Gap, past class.Space (b ∷ z) 1)) (Ok (Gap, past class.Line (b ∷ z) 2)) (comment_piece at (b ∷ z)) (word at (b ∷ z)) (quoted at (b ∷ z)) (string at (b ∷ z))
    (number at (b ∷ z)) (param at (b ∷ z)) (point joined at (b ∷ z)) (sign at (b ∷ z))
    (sound_space joined at b z) (sound_line joined at b z) (sound_comment joined at b z) (sound_word joined at b z)
    (λ e. subst (Q (λ x. quoted at (x ∷ z))) (sym e) (quoted_at joined at z (closing 34 false 1 z) refl))
    (λ e. subst (Q (λ x. string at (x ∷ z))) (sym e) (string_at joined at z (closing 39 false 1 z) refl))
    (sound_number joined at b z)
    (λ e. subst (Q (λ x. param at (x ∷ z))) (sym e) (sound_param joined at z))
    (λ e. subst (Q (λ x. point joined at (x ∷ z))) (sym e) (sound_point joined at z))
    (sound_sign joined at b z)
