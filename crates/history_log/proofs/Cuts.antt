-- What cutting a list at a byte gives.
use Rattle.std.proofs.Common.{◌≡◌, ◌≢◌, ℕ, ◌<◌, ◌==◌, true, false, List, [], ◌∷◌, ◌++◌, ◌-◌, length, get_or, take, drop, Option, Some, Bor, sym, ap, refl, ◌∙◌, append-nil, arith}
use Rattle.std.proofs.lemmas.List.Splits.{slice_split_none, slice_split_at, join_with_byte-slice_split}
use Rattle.std.proofs.lemmas.List.{get_or_default, take_rest}
use Rattle.std.proofs.lemmas.Bool.Decides.{nat_tests}
use Rattle.std.specs.Option.{option_map_or}
use Rattle.std.specs.List.{All, AllByRecursion, join_with_byte}
use Rattle.history_log.specs.Cut.{cut_at, Lacks}

differs : (byte x : ℕ) → x ≢ byte → (x == byte) ≡ false
differs byte x ne = grind (arith, nat_tests)

same : (byte : ℕ) → (byte == byte) ≡ true
same byte = grind (arith, nat_tests)

none_passes : (byte : ℕ) (text : List ℕ) → Lacks byte text → All (λ x. (x == byte) ≡ false) text
none_passes byte text lacks k d lt = differs byte (get_or text k d) (λ e. lacks (k, lt, e_is k lt e)) where
  e_is : (k : ℕ) → k < length text → get_or text k d ≡ byte → get_or text k byte ≡ byte
  e_is k lt e = get_or_default text k byte d lt ∙ e

pub cut_last : (byte : ℕ) (text : List ℕ) → Lacks byte text → cut_at byte text ≡ text ∷ []
unfolding cut_at
cut_last byte text lacks = slice_split_none (λ x. x == byte) text (none_passes byte text lacks)

pub cut_first : (byte : ℕ) (part rest : List ℕ) → Lacks byte part → cut_at byte (part ++ byte ∷ rest) ≡ part ∷ cut_at byte rest
unfolding cut_at
cut_first byte part rest lacks = slice_split_at (λ x. x == byte) part byte rest (none_passes byte part lacks) (same byte)

-- parts that lack the byte, joined by it, are cut into themselves
pub cut_joined : (byte : ℕ) (part : List ℕ) (parts : List (List ℕ)) → AllByRecursion (Lacks byte) (part ∷ parts) → cut_at byte (join_with_byte byte (part ∷ parts)) ≡ part ∷ parts
cut_joined byte part [] lack = cut_last byte part lack.0
cut_joined byte part (next ∷ parts) lack = cut_first byte part (join_with_byte byte (next ∷ parts)) lack.0 ∙ ap (λ ps. part ∷ ps) (cut_joined byte next parts lack.1)

-- what was cut is joined to what it was
pub joined_cut : (byte : ℕ) (text : List ℕ) (parts : List (List ℕ)) → cut_at byte text ≡ parts → text ≡ join_with_byte byte parts
unfolding cut_at
joined_cut byte text parts e = sym (join_with_byte-slice_split byte text) ∙ ap (join_with_byte byte) e

-- parts are those of the text that is left
pub at_rest : (separator : ℕ) (whole : List (List ℕ)) (rest : Option (Bor (List ℕ))) (text : Bor (List ℕ)) → rest ≡ Some text
    → whole ≡ option_map_or (λ r. cut_at separator r.now) rest [] → whole ≡ cut_at separator text.now
at_rest separator whole rest text e v = rw e at v

is_nothing : (rest : List ℕ) → true ≡ (length rest == 0) → rest ≡ []
is_nothing [] empty = refl
is_nothing (b ∷ more) empty = absurd (grind (arith, nat_tests))

-- the part that a text begins with: all of it, or what stands before the byte
pub last_part : (byte : ℕ) (text part rest : List ℕ) → Lacks byte part → text ≡ part ++ rest → true ≡ (length rest == 0) → cut_at byte text ≡ part ∷ []
last_part byte text part rest lacks is empty = ap (cut_at byte) (is ∙ ap (λ r. part ++ r) (is_nothing rest empty) ∙ append-nil part) ∙ cut_last byte part lacks

pub next_part : (byte : ℕ) (text part rest : List ℕ) → Lacks byte part → text ≡ part ++ rest → false ≡ (length rest == 0) → get_or rest 0 0 ≡ byte
    → cut_at byte text ≡ part ∷ cut_at byte (take (length rest - 1) (drop 1 rest))
next_part byte text part [] lacks is some first = absurd (grind (arith, nat_tests))
next_part byte text part (b ∷ more) lacks is some first =
    ap (cut_at byte) (is ∙ ap (λ (x : ℕ). part ++ x ∷ more) first) ∙ cut_first byte part more lacks ∙ ap (λ r. part ∷ cut_at byte r) (sym (take_rest (b ∷ more) 1))
