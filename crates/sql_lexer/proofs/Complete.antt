-- What stands at the front of a text is found there.
use Rattle.std.proofs.Common.{◌≡◌, ℕ, zero, suc, ◌+◌, ◌-◌, ◌<◌, ◌≤◌, Bool, true, false, not, ◌&&◌, ◌||◌, List, [], ◌∷◌, ◌++◌, length, take, Option, Some, None, Ok, Err, pos, refl, ap, sym, ◌∙◌, append_assoc, ◌⊎◌, inl, inr, arith}
use Rattle.std.specs.Prelude.{◌==◌, nat_le, slice_index, is_some}
use Rattle.std.specs.Char.{is_ascii_alphabetic}
use Rattle.std.specs.List.{prefix_len}
use Rattle.std.proofs.lemmas.Bool.{eqb-true, ne_eqb, lt-ltb, le-ltb, leb-false, and_left, and_right, or_parts, or_cases, not-true, false_from_ne_true, cond-true, cond-false}
use Rattle.std.proofs.Math.Seq.{take-append_seam, take-append-add}
use Rattle.sql_tree.specs.declared.token.Sign.{Sign}
use Rattle.sql_tree.specs.declared.token.TokenKind.{TokenKind}
use Rattle.sql_tree.specs.declared.token.TokenKind.TheVariants as k
use Rattle.sql_lexer.specs.declared.fault.LexFault.{LexFault}
use Rattle.sql_lexer.specs.declared.fault.LexFault.TheVariants.{UnclosedString, UnclosedComment, UnclosedName, BadCharacter, Unsupported}
use Rattle.sql_lexer.specs.declared.piece.Piece.TheVariants.{Gap, Kind}
use Rattle.sql_lexer.specs.declared.scan.Class.TheVariants as class
use Rattle.sql_lexer.specs.Bytes.{is_space, is_in_line, is_digit, begins_word, is_in_word, is_prefix, AllAre, begins, begins_fraction, folded, decimal}
use Rattle.sql_lexer.specs.Lexemes.{IsGap, IsToken, IsFaultAt, Unclosed, UnclosedComment as NoEnd, doubled, to_quote, sign_of, sign_of_two, is_pair, begins_nothing, most}
use Rattle.sql_lexer.specs.Scan.{past, closing, comment_from}
use Rattle.sql_lexer.specs.Front.{comment_piece, gap_or, word, string, string_or, quoted, name_or, number, param, point, sign, piece}
use Rattle.sql_lexer.proofs.Runs.{run_len, begins_first}
use Rattle.sql_lexer.proofs.Comments.{comment_found, comment_ends}
use Rattle.sql_lexer.proofs.Quotes.{closing_sound}
use Rattle.sql_lexer.proofs.Forms.{word_is, name_is, string_is, number_is, single_is, none_is, double_is}
use Rattle.sql_lexer.proofs.Plain.{Plain, sign_plain, sign_plain_two, plain, chosen_space, chosen_word, chosen_number, chosen_sign}

-- ---- what the first byte chooses

piece_space : (joined : Bool) (at b : ℕ) (z : List ℕ) → is_space b ≡ true → piece joined at (b ∷ z) ≡ Ok (Gap, past class.Space (b ∷ z) 1)
unfolding piece
piece_space joined at b z e = chosen_space b _ _ _ _ _ _ _ _ _ _ _ e

piece_line : (joined : Bool) (at : ℕ) (z : List ℕ) → piece joined at (45 ∷ 45 ∷ z) ≡ Ok (Gap, past class.Line (45 ∷ 45 ∷ z) 2)
unfolding piece
piece_line joined at z = refl

piece_comment : (joined : Bool) (at : ℕ) (z : List ℕ) → piece joined at (47 ∷ 42 ∷ z) ≡ gap_or (UnclosedComment at) (comment_from 0 false 2 z)
unfolding piece comment_piece
piece_comment joined at z = refl

piece_word : (joined : Bool) (at b : ℕ) (z : List ℕ) → begins_word b ≡ true → piece joined at (b ∷ z) ≡ word at (b ∷ z)
unfolding piece
piece_word joined at b z e = chosen_word b _ _ _ _ _ _ _ _ _ _ _ e

piece_quoted : (joined : Bool) (at : ℕ) (z : List ℕ) → piece joined at (34 ∷ z) ≡ quoted at (34 ∷ z)
unfolding piece
piece_quoted joined at z = refl

piece_string : (joined : Bool) (at : ℕ) (z : List ℕ) → piece joined at (39 ∷ z) ≡ string at (39 ∷ z)
unfolding piece
piece_string joined at z = refl

piece_number : (joined : Bool) (at b : ℕ) (z : List ℕ) → is_digit b ≡ true → piece joined at (b ∷ z) ≡ number at (b ∷ z)
unfolding piece
piece_number joined at b z e = chosen_number b _ _ _ _ _ _ _ _ _ _ _ e

piece_param : (joined : Bool) (at : ℕ) (z : List ℕ) → piece joined at (36 ∷ z) ≡ param at (36 ∷ z)
unfolding piece
piece_param joined at z = refl

piece_point : (joined : Bool) (at : ℕ) (z : List ℕ) → piece joined at (46 ∷ z) ≡ point joined at (46 ∷ z)
unfolding piece
piece_point joined at z = refl

piece_sign : (joined : Bool) (at b : ℕ) (z : List ℕ) → Plain b → (b == 45 && slice_index z 0 == 45) ≡ false → (b == 47 && slice_index z 0 == 42) ≡ false → piece joined at (b ∷ z) ≡ sign at (b ∷ z)
unfolding piece
piece_sign joined at b z p line comment = chosen_sign b _ _ _ _ _ _ _ _ _ _ _ p line comment

-- ---- white space and comments

one_more : (n : ℕ) → 1 + n ≡ suc n
one_more n = omega arith

two_more : (n : ℕ) → 2 + n ≡ suc (suc n)
two_more n = omega arith

pub gap_found : {bytes after : List ℕ} → IsGap bytes after → (joined : Bool) (at : ℕ) → piece joined at (bytes ++ after) ≡ Ok (Gap, length bytes)
gap_found (IsGap.space b bytes after start all stops) joined at =
    piece_space joined at b (bytes ++ after) start ∙ ap (λ n. Ok (Gap, 1 + n)) (run_len is_space bytes after all stops) ∙ ap (λ n. Ok (Gap, n)) (one_more (length bytes))
gap_found (IsGap.line bytes after all stops) joined at =
    piece_line joined at (bytes ++ after) ∙ ap (λ n. Ok (Gap, 2 + n)) (run_len is_in_line bytes after all stops) ∙ ap (λ n. Ok (Gap, n)) (two_more (length bytes))
gap_found (IsGap.comment bytes after ends) joined at =
    piece_comment joined at (bytes ++ after) ∙ ap (λ o. gap_or (UnclosedComment at) o) (comment_found ends 2 after) ∙ ap (λ n. Ok (Gap, n)) (two_more (length bytes))

-- ---- words

test_at : (b : ℕ) (after : List ℕ) → (v : Bool) → is_prefix b ≡ v → (v ≡ true → begins (λ c. c == 39) after ≡ false) → (v && slice_index after 0 == 39) ≡ false
test_at b after true e h = begins_first (λ c. c == 39) after refl ∙ h refl
test_at b after false e h = refl

unprefixed : (b : ℕ) (bytes after : List ℕ) → (bytes ≡ [] → is_prefix b ≡ true → begins (λ c. c == 39) after ≡ false) → (1 + length bytes == 1 && is_prefix b && slice_index (bytes ++ after) 0 == 39) ≡ false
unprefixed b [] after h = test_at b after (is_prefix b) refl (h refl)
unprefixed b (c ∷ bytes) after h =
    and_left (1 + length (c ∷ bytes) == 1 && is_prefix b) (slice_index (c ∷ bytes ++ after) 0 == 39) (and_left (1 + length (c ∷ bytes) == 1) (is_prefix b) (ne_eqb (1 + length (c ∷ bytes)) 1 (λ e. omega arith)))

word_found : (joined : Bool) (at b : ℕ) (bytes after : List ℕ) → begins_word b ≡ true → AllAre is_in_word bytes → begins is_in_word after ≡ false → length (b ∷ bytes) ≤ 63
    → (bytes ≡ [] → is_prefix b ≡ true → begins (λ c. c == 39) after ≡ false) → piece joined at (b ∷ bytes ++ after) ≡ Ok (Kind (k.Word (folded (b ∷ bytes))), length (b ∷ bytes))
word_found joined at b bytes after start all stops short free =
    piece_word joined at b (bytes ++ after) start ∙ word_is at b bytes after all stops ∙ cond-false _ _ _ (unprefixed b bytes after free) ∙ cond-false _ _ _ (le-ltb 63 (1 + length bytes) (omega arith))
    ∙ ap (λ n. Ok (Kind (k.Word (folded (b ∷ bytes))), n)) (one_more (length bytes))

-- ---- numbers

digit_in_word : (b : ℕ) → is_digit b ≡ true → is_in_word b ≡ true
digit_in_word b e = rw e refl

no_digit : (z : List ℕ) → begins is_in_word z ≡ false → begins is_digit z ≡ false
no_digit [] e = refl
no_digit (b ∷ z) e = false_from_ne_true (is_digit b) (λ h. let f : true ≡ false = sym (digit_in_word b h) ∙ e in cc)

number_found : (joined : Bool) (at b : ℕ) (bytes after : List ℕ) → is_digit b ≡ true → AllAre is_digit bytes → begins is_in_word after ≡ false → begins_fraction after ≡ false → decimal (b ∷ bytes) ≤ most
    → piece joined at (b ∷ bytes ++ after) ≡ Ok (Kind (k.Number (pos (decimal (b ∷ bytes)))), length (b ∷ bytes))
number_found joined at b bytes after start all stops whole fits =
    piece_number joined at b (bytes ++ after) start ∙ number_is at b bytes after all (no_digit after stops) ∙ cond-false _ _ _ (and_right (not (begins_fraction after)) (begins is_in_word after) stops)
    ∙ cond-false _ _ _ (le-ltb most (decimal (b ∷ bytes)) fits) ∙ cond-false _ _ _ whole ∙ ap (λ n. Ok (Kind (k.Number (pos (decimal (b ∷ bytes)))), n)) (one_more (length bytes))

-- ---- parameters

taken_stops : (m : ℕ) (z : List ℕ) → (begins is_digit z ≡ true → m ≡ 0) → begins is_digit (take m z) ≡ false
taken_stops zero z h = refl
taken_stops (suc m) [] h = refl
taken_stops (suc m) (b ∷ z) h = false_from_ne_true (is_digit b) (λ e. let f : suc m ≡ 0 = h e in omega arith)

param_found : (joined : Bool) (at b : ℕ) (bytes after : List ℕ) → is_digit b ≡ true → AllAre is_digit bytes → length (b ∷ bytes) ≤ 5 → (begins is_digit after ≡ true → length (b ∷ bytes) ≡ 5)
    → piece joined at (36 ∷ b ∷ bytes ++ after) ≡ Ok (Kind (k.Param (decimal (b ∷ bytes))), length (36 ∷ b ∷ bytes))
unfolding param
param_found joined at b bytes after start all short full =
    let w = b ∷ bytes in
    let m = 5 - length w in
    let five : length w + m ≡ 5 = omega arith in
    let front : take 5 (w ++ after) ≡ w ++ take m after = ap (λ n. take n (w ++ after)) (sym five) ∙ take-append-add w after m in
    let run : prefix_len is_digit (w ++ take m after) ≡ length w = run_len is_digit w (take m after) (start, all) (taken_stops m after (λ e. let f = full e in omega arith)) in
    let size : prefix_len is_digit (take 5 (w ++ after)) ≡ length w = ap (λ y. prefix_len is_digit y) front ∙ run in
    let less : 1 + prefix_len is_digit (take 5 (w ++ after)) - 1 ≡ length w = omega arith in
    let inner : take (1 + prefix_len is_digit (take 5 (w ++ after)) - 1) (take 5 (w ++ after)) ≡ w = ap (λ n. take n (take 5 (w ++ after))) less ∙ ap (λ y. take (length w) y) front ∙ take-append_seam w (take m after) in
    let end : 1 + prefix_len is_digit (take 5 (w ++ after)) ≡ length (36 ∷ w) = omega arith in
    piece_param joined at (w ++ after) ∙ cond-false _ _ _ (ne_eqb (1 + prefix_len is_digit (take 5 (w ++ after))) 1 (λ e. omega arith))
    ∙ ap (λ y. Ok (Kind (k.Param (decimal y)), 1 + prefix_len is_digit (take 5 (w ++ after)))) inner ∙ ap (λ n. Ok (Kind (k.Param (decimal w)), n)) end

-- ---- signs

zero_right : (x : Bool) → (x && false) ≡ false
zero_right x = and_right x false refl

not_line : (b : ℕ) (z : List ℕ) → begins (is_pair b) z ≡ false → (b == 45 && slice_index z 0 == 45) ≡ false
not_line b [] e = zero_right (b == 45)
not_line b (c ∷ z) e = (or_parts (is_some (sign_of_two b c)) (b == 45 && c == 45) (or_parts (is_some (sign_of_two b c) || (b == 45 && c == 45)) (b == 47 && c == 42) e).0).1

not_comment : (b : ℕ) (z : List ℕ) → begins (is_pair b) z ≡ false → (b == 47 && slice_index z 0 == 42) ≡ false
not_comment b [] e = zero_right (b == 47)
not_comment b (c ∷ z) e = (or_parts (is_some (sign_of_two b c) || (b == 45 && c == 45)) (b == 47 && c == 42) e).1

-- ---- all tokens

pub token_found : {joined : Bool} {bytes after : List ℕ} {kind : TokenKind} → IsToken joined bytes after kind → (at : ℕ) → piece joined at (bytes ++ after) ≡ Ok (Kind kind, length bytes)
unfolding point
token_found (IsToken.word joined b bytes after start all stops short free) at = word_found joined at b bytes after start all stops short free
token_found (IsToken.quoted joined name after lacks some short) at =
    piece_quoted joined at (to_quote 34 name ++ after) ∙ name_is at name after lacks ∙ cond-false _ _ _ (ne_eqb (length name) 0 (λ e. omega arith)) ∙ cond-false _ _ _ (le-ltb 63 (length name) short)
token_found (IsToken.string joined text after lacks) at = piece_string joined at (to_quote 39 text ++ after) ∙ string_is at text after lacks
token_found (IsToken.number joined b bytes after start all stops whole fits) at = number_found joined at b bytes after start all stops whole fits
token_found (IsToken.parameter joined b bytes after start all short full) at = param_found joined at b bytes after start all short full
token_found (IsToken.sign joined b after x e single) at = piece_sign joined at b after (sign_plain b x e) (not_line b after single) (not_comment b after single) ∙ single_is at b after x e single
token_found (IsToken.sign_of_two_bytes joined b c after x e) at =
    let p = sign_plain_two b c x e in
    piece_sign joined at b (c ∷ after) p.plain (and_left (b == 45) (c == 45) p.line) (and_left (b == 47) (c == 42) p.comment) ∙ double_is at b c after x e
token_found (IsToken.point joined after e) at = piece_point joined at after ∙ cond-false _ _ _ (ap (λ v. not joined && v) (begins_first is_digit after refl) ∙ e)

-- ---- faults

comment_none : (z : List ℕ) → NoEnd z → (o : Option ℕ) → comment_from 0 false 2 z ≡ o → o ≡ None
comment_none z h None e = refl
comment_none z h (Some end) e = let c = comment_ends 0 2 z end e in absurd (h c.bytes c.after c.splits c.ends)

quote_none : (q : ℕ) (z : List ℕ) → Unclosed q z → (o : Option ℕ) → closing q false 1 z ≡ o → o ≡ None
quote_none q z h None e = refl
quote_none q z h (Some end) e =
    let c = closing_sound q 1 z end e in
    let regroup : to_quote q c.text ++ c.after ≡ doubled q c.text ++ q ∷ c.after = simp append_assoc in
    absurd (h c.text c.after (c.splits ∙ sym regroup) c.lacks)

string_fault : (at : ℕ) (z : List ℕ) → Unclosed 39 z → string at (39 ∷ z) ≡ Err (UnclosedString at)
unfolding string
string_fault at z h = ap (λ o. string_or at (39 ∷ z) o) (quote_none 39 z h (closing 39 false 1 z) refl)

name_fault : (at : ℕ) (z : List ℕ) → Unclosed 34 z → quoted at (34 ∷ z) ≡ Err (UnclosedName at)
unfolding quoted
name_fault at z h = ap (λ o. name_or at (34 ∷ z) o) (quote_none 34 z h (closing 34 false 1 z) refl)

prefix_begins : (b : ℕ) → is_prefix b ≡ true → begins_word b ≡ true
prefix_begins b e = letter b (known b e)
  where
    letter : (b : ℕ) → (b ≡ 101) ⊎ ((b ≡ 69) ⊎ ((b ≡ 98) ⊎ ((b ≡ 66) ⊎ ((b ≡ 120) ⊎ ((b ≡ 88) ⊎ ((b ≡ 110) ⊎ (b ≡ 78))))))) → begins_word b ≡ true
    letter b (inl e) = rw e refl
    letter b (inr (inl e)) = rw e refl
    letter b (inr (inr (inl e))) = rw e refl
    letter b (inr (inr (inr (inl e)))) = rw e refl
    letter b (inr (inr (inr (inr (inl e))))) = rw e refl
    letter b (inr (inr (inr (inr (inr (inl e)))))) = rw e refl
    letter b (inr (inr (inr (inr (inr (inr (inl e))))))) = rw e refl
    letter b (inr (inr (inr (inr (inr (inr (inr e))))))) = rw e refl

    last_of : (x : Bool) (b k : ℕ) {A : Type 0} → (x || b == k) ≡ true → (x ≡ true → A) → (b ≡ k → A) → A
    last_of x b k e f g = elim (or_cases x (b == k) e) [ inl h ↦ f h | inr h ↦ g (eqb-true b k h) ]

    known : (b : ℕ) → is_prefix b ≡ true → (b ≡ 101) ⊎ ((b ≡ 69) ⊎ ((b ≡ 98) ⊎ ((b ≡ 66) ⊎ ((b ≡ 120) ⊎ ((b ≡ 88) ⊎ ((b ≡ 110) ⊎ (b ≡ 78)))))))
    known b e =
        last_of _ b 78 e (λ e. last_of _ b 110 e (λ e. last_of _ b 88 e (λ e. last_of _ b 120 e (λ e. last_of _ b 66 e (λ e. last_of _ b 98 e (λ e. last_of (b == 101) b 69 e (λ e. inl (eqb-true b 101 e)) (λ h. inr (inl h)))
        (λ h. inr (inr (inl h)))) (λ h. inr (inr (inr (inl h))))) (λ h. inr (inr (inr (inr (inl h)))))) (λ h. inr (inr (inr (inr (inr (inl h))))))) (λ h. inr (inr (inr (inr (inr (inr (inl h)))))))) (λ h. inr (inr (inr (inr (inr (inr (inr h)))))))

prefix_fault : (joined : Bool) (at b : ℕ) (z : List ℕ) → is_prefix b ≡ true → piece joined at (b ∷ 39 ∷ z) ≡ Err (Unsupported at)
prefix_fault joined at b z e = piece_word joined at b (39 ∷ z) (prefix_begins b e) ∙ word_is at b [] (39 ∷ z) tt refl ∙ rw e refl

dollar_fault : (joined : Bool) (at : ℕ) (z : List ℕ) → begins is_digit z ≡ false → param at (36 ∷ z) ≡ Err (BadCharacter at)
unfolding param
dollar_fault joined at [] e = refl
dollar_fault joined at (b ∷ z) e = rw e refl

nothing_plain : (b : ℕ) → begins_nothing b ≡ true → Plain b × (sign_of b ≡ None)
nothing_plain b e =
    let p7 = or_parts _ (is_some (sign_of b)) (not-true _ e) in
    let p6 = or_parts _ (b == 46) p7.0 in
    let p5 = or_parts _ (b == 36) p6.0 in
    let p4 = or_parts _ (b == 39) p5.0 in
    let p3 = or_parts _ (b == 34) p4.0 in
    let p2 = or_parts _ (is_digit b) p3.0 in
    let p1 = or_parts (is_space b) (begins_word b) p2.0 in
    (plain b p1.0 p1.1 p3.1 p4.1 p2.1 p5.1 p6.1 (low b p1.1), none (sign_of b) p7.1)
  where
    low : (b : ℕ) → begins_word b ≡ false → b < 128
    low b e = leb-false 128 b (or_parts (is_ascii_alphabetic b || b == 95) (nat_le 128 b) e).1

    none : (o : Option Sign) → is_some o ≡ false → o ≡ None
    none None e = refl
    none (Some x) e = absurd (cc)

not_junk : (x y : Bool) → (y ≡ true → x ≡ true) → (not x && y) ≡ false
not_junk true y h = refl
not_junk false true h = absurd (let f : false ≡ true = h refl in cc)
not_junk false false h = refl

pub fault_found : {joined : Bool} {at : ℕ} {z : List ℕ} {f : LexFault} → IsFaultAt joined at z f → piece joined at z ≡ Err f
unfolding point
fault_found (IsFaultAt.unclosed_comment joined at z h) = piece_comment joined at z ∙ ap (λ o. gap_or (UnclosedComment at) o) (comment_none z h (comment_from 0 false 2 z) refl)
fault_found (IsFaultAt.unclosed_string joined at z h) = piece_string joined at z ∙ string_fault at z h
fault_found (IsFaultAt.unclosed_name joined at z h) = piece_quoted joined at z ∙ name_fault at z h
fault_found (IsFaultAt.empty_name joined at after lacks) = piece_quoted joined at (to_quote 34 [] ++ after) ∙ name_is at [] after lacks
fault_found (IsFaultAt.long_name joined at name after lacks long) =
    piece_quoted joined at (to_quote 34 name ++ after) ∙ name_is at name after lacks ∙ cond-false _ _ _ (ne_eqb (length name) 0 (λ e. omega arith)) ∙ cond-true _ _ _ (lt-ltb 63 (length name) long)
fault_found (IsFaultAt.long_word joined at b bytes after start all stops long) =
    piece_word joined at b (bytes ++ after) start ∙ word_is at b bytes after all stops
    ∙ cond-false _ _ _ (unprefixed b bytes after (λ e _. let h : length bytes ≡ 0 = ap length e in absurd (omega arith))) ∙ cond-true _ _ _ (lt-ltb 63 (1 + length bytes) (omega arith))
fault_found (IsFaultAt.prefixed_string joined at b z e) = prefix_fault joined at b z e
fault_found (IsFaultAt.junk joined at b bytes after start all stops whole more) = piece_number joined at b (bytes ++ after) start ∙ number_is at b bytes after all stops ∙ rw (whole, more) refl
fault_found (IsFaultAt.too_wide joined at b bytes after start all stops more wide) =
    piece_number joined at b (bytes ++ after) start ∙ number_is at b bytes after all stops ∙ cond-false _ _ _ (not_junk (begins_fraction after) (begins is_in_word after) more)
    ∙ cond-true _ _ _ (lt-ltb most (decimal (b ∷ bytes)) wide)
fault_found (IsFaultAt.fraction joined at b bytes after start all stops more fits) =
    piece_number joined at b (bytes ++ after) start ∙ number_is at b bytes after all stops ∙ cond-false _ _ _ (not_junk (begins_fraction after) (begins is_in_word after) (λ _. more))
    ∙ cond-false _ _ _ (le-ltb most (decimal (b ∷ bytes)) fits) ∙ cond-true _ _ _ more
fault_found (IsFaultAt.leading_point at b z e) = piece_point false at (b ∷ z) ∙ rw e refl
fault_found (IsFaultAt.dollar joined at z e) = piece_param joined at z ∙ dollar_fault joined at z e
fault_found (IsFaultAt.bad joined at b z nothing single) =
    let p = nothing_plain b nothing in
    piece_sign joined at b z p.0 (not_line b z single) (not_comment b z single) ∙ none_is at b z p.1 single
