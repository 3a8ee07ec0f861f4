-- A text without the spaces at its end is the text of its first characters.
use Rattle.std.proofs.Common.{◌≡◌, ℕ, zero, suc, ◌+◌, ◌-◌, ◌≤◌, ◌<◌, ◌==◌, nat_le, Bool, true, false, cond, ◌&&◌, ◌||◌, Result, Err, List, [], ◌∷◌, ◌++◌, length, take, drop, chars, refl, sym, ap, ◌∙◌, subst, arith, length-append, length-drop}
use Rattle.std.proofs.lemmas.Bool.{eqb-true, leb-false}
use Rattle.std.proofs.lemmas.List.{take-append-drop}
use Rattle.std.proofs.lemmas.Str.{encodes-append, encodes-chars, scalars-chars, length-le-encodes}
use Rattle.std.proofs.Math.Seq.{take-append_seam}
use Rattle.std.proofs.Math.Utf8.{encode, encodes, scalar, scalars}
use Rattle.std.specs.Str.{IsUtf8}
use Rattle.cell_base.specs.declared.sql_fault.SqlFault.{SqlFault}
use Rattle.cell_base.specs.declared.sql_state.SqlState.TheVariants.{S22001}
use Rattle.cell_base.specs.declared.value.Value.{Value}
use Rattle.typing_rules.specs.Assignment.{are_spaces, stored_text, limited_text}
use Rattle.expr_eval.specs.Answers.{Answers}

parts : (a b : Bool) → (a && b) ≡ true → (a ≡ true) × (b ≡ true)
parts true true h = (refl, refl)
parts true false h = cc
parts false b h = cc

whole : (a b : Bool) → a ≡ true → b ≡ true → (a && b) ≡ true
whole true true h k = refl
whole true false h k = cc
whole false b h k = cc

one_space : encode 32 ≡ 32 ∷ []
unfolding encode
one_space = refl

-- spaces are their own bytes
spaces_encode : (cs : List ℕ) → are_spaces cs ≡ true → encodes cs ≡ cs
spaces_encode [] h = refl
spaces_encode (c ∷ cs) h =
    let p = parts (c == 32) (are_spaces cs) h in
    let is : c ≡ 32 = eqb-true c 32 p.0 in
    ap (λ bs. encode c ++ bs) (spaces_encode cs p.1) ∙ ap (λ d. encode d ++ cs) is ∙ ap (λ bs. bs ++ cs) one_space ∙ ap (λ d. d ∷ cs) (sym is)

first_scalars : (n : ℕ) (cs : List ℕ) → scalars cs ≡ true → scalars (take n cs) ≡ true
first_scalars zero cs h = refl
first_scalars (suc n) [] h = refl
first_scalars (suc n) (c ∷ cs) h = let p = parts (scalar c) (scalars cs) h in whole (scalar c) (scalars (take n cs)) p.0 (first_scalars n cs p.1)

cut : (cs text : List ℕ) (n : ℕ) → encodes cs ≡ text → n ≤ length cs → are_spaces (drop n cs) ≡ true → take (length text - (length cs - n)) text ≡ encodes (take n cs)
cut cs text n is within spaces =
    let front : List ℕ = encodes (take n cs) in
    let joined : text ≡ front ++ drop n cs =
    sym is ∙ ap encodes (sym (take-append-drop n cs)) ∙ encodes-append (take n cs) (drop n cs) ∙ ap (λ bs. front ++ bs) (spaces_encode (drop n cs) spaces) in
    let sizes : length text ≡ length front + length (drop n cs) = ap length joined ∙ length-append front (drop n cs) in
    let place : length text - (length cs - n) ≡ length front = omega (arith, length-drop n cs) in
    ap (λ k. take k text) place ∙ ap (take (length front)) joined ∙ take-append_seam front (drop n cs)

pub shortened_is : (text : List ℕ) (n : ℕ) → IsUtf8 text → n ≤ length (chars text) → are_spaces (drop n (chars text)) ≡ true
    → take (length text - (length (chars text) - n)) text ≡ encodes (take n (chars text))
shortened_is text n utf8 = cut (chars text) text n (encodes-chars text utf8)

pub shortened_utf8 : (text : List ℕ) (n : ℕ) → IsUtf8 text → n ≤ length (chars text) → are_spaces (drop n (chars text)) ≡ true
    → IsUtf8 (take (length text - (length (chars text) - n)) text)
shortened_utf8 text n utf8 within spaces = (take n (chars text), (first_scalars n (chars text) (scalars-chars text utf8), sym (shortened_is text n utf8 within spaces)))

pub fewer_characters : (text : List ℕ) → IsUtf8 text → length (chars text) ≤ length text
fewer_characters text utf8 = subst (λ t. length (chars text) ≤ length t) (encodes-chars text utf8) (length-le-encodes (chars text))

right_false : (a b : Bool) → (a || b) ≡ false → b ≡ false
right_false true b h = cc
right_false false b h = h

pub too_many : (limit count : ℕ) → (limit == 0 || nat_le count limit) ≡ false → limit ≤ count
too_many limit count h = let over : limit < count = leb-false count limit (right_false (limit == 0) (nat_le count limit) h) in omega arith

pub limited_is : (r : Result Value SqlFault) (limit count : ℕ) (text : List ℕ) → IsUtf8 text → count ≡ length (chars text) → (limit == 0 || nat_le count limit) ≡ false
    → are_spaces (drop limit (chars text)) ≡ true → Answers r (stored_text (take (length text - (count - limit)) text)) → Answers r (limited_text limit text)
limited_is r limit count text utf8 counted over spaces given =
    let full : (limit == 0 || nat_le (length (chars text)) limit) ≡ false = ap (λ n. limit == 0 || nat_le n limit) (sym counted) ∙ over in
    let kept : take (length text - (count - limit)) text ≡ encodes (take limit (chars text)) =
    ap (λ n. take (length text - (n - limit)) text) counted ∙ shortened_is text limit utf8 (too_many limit (length (chars text)) full) spaces in
    let short : Answers r (stored_text (encodes (take limit (chars text)))) = subst (λ t. Answers r (stored_text t)) kept given in
    subst (λ a. Answers r (cond a (stored_text text) (cond (are_spaces (drop limit (chars text))) (stored_text (encodes (take limit (chars text)))) (Err S22001)))) (sym full)
    (subst (λ b. Answers r (cond b (stored_text (encodes (take limit (chars text)))) (Err S22001))) (sym spaces) short)
