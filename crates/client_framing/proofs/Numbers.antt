-- Numbers in four bytes, and the lists round them.
use Rattle.std.proofs.Common.{◌≡◌, ℕ, zero, suc, ◌+◌, ◌<◌, ◌≤◌, List, [], ◌∷◌, ◌++◌, length, take, drop, refl, sym, ◌∙◌, ap, arith}
use Rattle.std.specs.Prelude.{slice_index}
use Rattle.std.proofs.lemmas.List.{drop-drop, take-append-drop, take-append-le, drop-append-le, length-take-le, length-drop}
use Rattle.client_framing.specs.Spelling.{number_of}
use Rattle.client_framing.specs.Fronts.{number_at}

-- a number stays where more bytes come after it
pub number_at-append : (place : ℕ) (bytes more : List ℕ) → place + 4 ≤ length bytes → number_at place (bytes ++ more) ≡ number_at place bytes
number_at-append place bytes more fits =
    let a : drop place (bytes ++ more) ≡ drop place bytes ++ more = drop-append-le place bytes more (omega arith) in
    let b : take 4 (drop place bytes ++ more) ≡ take 4 (drop place bytes) = take-append-le 4 (drop place bytes) more (rw length-drop (omega arith)) in
    ap (λ (x : List ℕ). number_of x) (ap (λ (x : List ℕ). take 4 x) a ∙ b)

-- so does the first byte
pub first-append : (bytes more : List ℕ) → 0 < length bytes → slice_index (bytes ++ more) 0 ≡ slice_index bytes 0
first-append [] more h = absurd (omega arith)
first-append (x ∷ bytes) more h = refl

-- a part is as long as the difference of its ends
pub length-part : (xs : List ℕ) (n m : ℕ) → n + m ≤ length xs → length (take m (drop n xs)) ≡ m
length-part xs n m fits = length-take-le m (drop n xs) (rw length-drop (omega arith))

-- a list in two parts after a first one
pub two_parts : (xs : List ℕ) (n m : ℕ) → drop n xs ≡ take m (drop n xs) ++ drop (n + m) xs
two_parts xs n m = sym (ap (λ (b : List ℕ). take m (drop n xs) ++ b) (sym (drop-drop m n xs)) ∙ take-append-drop m (drop n xs))

-- so many of a list that is cut in two
pub take_split : (n : ℕ) (xs ys : List ℕ) → (extra : List ℕ) × (take n (xs ++ ys) ≡ take n xs ++ extra)
take_split zero xs ys = ([], refl)
take_split (suc n) [] ys = (take (suc n) ys, refl)
take_split (suc n) (x ∷ xs) ys = let r = take_split n xs ys in (r.0, ap (λ (l : List ℕ). x ∷ l) r.1)
