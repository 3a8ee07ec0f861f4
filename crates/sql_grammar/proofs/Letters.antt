-- A word is looked up among the words of its first letter.
use native.Mathlib.Omega.{arith}
use Rattle.std.proofs.Common.{◌≡◌, ◌≢◌, ◌<◌, ◌≤◌, ◌+◌, ◌⊎◌, ℕ, zero, suc, Bool, true, false, ◌&&◌, nat_eq, if◌then◌else◌, List, [], ◌∷◌, ◌++◌, flat_map, Some, refl, ap, ◌∙◌, sym, inl, inr, rules, length, map, slice_get, slice_index_or, Bor}
use Rattle.std.proofs.lemmas.Bool.Decides.{nat_tests}
use Rattle.std.proofs.lemmas.List.{get_or-map, length-map}
use Rattle.std.specs.Str.{bytes_eq}
use Rattle.std.specs.Cmp.Lexicographic.{pointwise}
use Rattle.sql_grammar.specs.declared.mark.Class.{Class}
use Rattle.sql_grammar.specs.declared.mark.Class.TheVariants.{Plain}
use Rattle.sql_grammar.specs.declared.mark.Word.TheVariants.{Other}
use Rattle.sql_grammar.specs.Words.{lookup, letters, rows, class}

abbrev Rows : Type 0
Rows = List (List ℕ × Class)

abbrev begins_with : ℕ → List ℕ → Bool
begins_with letter [] = false
begins_with letter (first ∷ rest) = nat_eq first letter

-- each word begins with the letter
abbrev begin_with : ℕ → Rows → Bool
begin_with letter [] = true
begin_with letter (row ∷ more) = begins_with letter row.0 && begin_with letter more

-- the words of the first list begin with the letter, those of the next one with the next letter, and so on
abbrev go_by_letters : ℕ → List Rows → Bool
go_by_letters letter [] = true
go_by_letters letter (words ∷ more) = begin_with letter words && go_by_letters (suc letter) more

abbrev joined : List Rows → Rows
joined lists = flat_map (λ words. words) lists

both_true : (a b : Bool) → (a && b) ≡ true → (a ≡ true) × (b ≡ true)
both_true true true is = (refl, refl)
both_true true false is = search rules
both_true false b is = search rules

differ : (letter other : ℕ) (word rest : List ℕ) → begins_with letter word ≡ true → letter ≢ other → bytes_eq word (other ∷ rest) ≡ false
differ letter other [] rest begins apart = search rules
differ letter other (first ∷ more) rest begins apart =
    let off : nat_eq first other ≡ false = grind (arith, nat_tests) in
    ap (λ (b : Bool). b && pointwise nat_eq more rest) off

-- words of another letter are passed over
passed : (letter other : ℕ) (words more : Rows) (rest : List ℕ) → begin_with letter words ≡ true → letter ≢ other →
    lookup (words ++ more) (other ∷ rest) ≡ lookup more (other ∷ rest)
passed letter other [] more rest begin apart = refl
passed letter other (row ∷ words) more rest begin apart =
    let both = both_true (begins_with letter row.0) (begin_with letter words) begin in
    ap (λ (b : Bool). if b then row.1 else lookup (words ++ more) (other ∷ rest)) (differ letter other row.0 rest both.0 apart)
    ∙ passed letter other words more rest both.1 apart

-- what finds nothing may follow
before_none : (words more : Rows) (word : List ℕ) → lookup more word ≡ Plain Other → lookup (words ++ more) word ≡ lookup words word
before_none [] more word none = none
before_none (row ∷ words) more word none = ap (λ (c : Class). if bytes_eq row.0 word then row.1 else c) (before_none words more word none)

apart : (letter other size : ℕ) → ((other < letter) ⊎ (letter + suc size ≤ other)) → letter ≢ other
apart letter other size (inl below) = omega arith
apart letter other size (inr past) = omega arith

further : (letter other size : ℕ) → ((other < letter) ⊎ (letter + suc size ≤ other)) → (other < suc letter) ⊎ (suc letter + size ≤ other)
further letter other size (inl below) = inl (omega arith)
further letter other size (inr past) = inr (omega arith)

-- a letter of none of the lists finds nothing
none_of : (letter other : ℕ) (lists : List Rows) (rest : List ℕ) → go_by_letters letter lists ≡ true → ((other < letter) ⊎ (letter + length lists ≤ other)) →
    lookup (joined lists) (other ∷ rest) ≡ Plain Other
none_of letter other [] rest go outside = refl
none_of letter other (words ∷ more) rest go outside =
    let both = both_true (begin_with letter words) (go_by_letters (suc letter) more) go in
    passed letter other words (joined more) rest both.0 (apart letter other (length more) outside) ∙ none_of (suc letter) other more rest both.1 (further letter other (length more) outside)

by_place : (letter place : ℕ) (lists : List Rows) (other : Rows) (rest : List ℕ) → go_by_letters letter lists ≡ true → place < length lists →
    lookup (slice_index_or lists place other) ((letter + place) ∷ rest) ≡ lookup (joined lists) ((letter + place) ∷ rest)
by_place letter place [] other rest go below = search rules
by_place letter zero (words ∷ more) other rest go below =
    let both = both_true (begin_with letter words) (go_by_letters (suc letter) more) go in
    let here : letter + 0 ≡ letter = omega arith in
    sym (before_none words (joined more) ((letter + 0) ∷ rest) (none_of (suc letter) (letter + 0) more rest both.1 (inl (omega arith))))
by_place letter (suc place) (words ∷ more) other rest go below =
    let both = both_true (begin_with letter words) (go_by_letters (suc letter) more) go in
    let there : suc letter + place ≡ letter + suc place = omega arith in
    let found = by_place (suc letter) place more other rest both.1 (omega arith) in
    ap (λ (first : ℕ). lookup (slice_index_or more place other) (first ∷ rest)) (sym there)
    ∙ found
    ∙ ap (λ (first : ℕ). lookup (joined more) (first ∷ rest)) there
    ∙ sym (passed letter (letter + suc place) words (joined more) rest both.0 (omega arith))

all_go : go_by_letters 97 letters ≡ true
unfolding letters
all_go = refl

pub of_letter : (place : ℕ) (other : Rows) (rest : List ℕ) → place < 26 → lookup (slice_index_or letters place other) ((97 + place) ∷ rest) ≡ class ((97 + place) ∷ rest)
unfolding rows letters
of_letter place other rest below = by_place 97 place letters other rest all_go below

abbrev words_of : Bor (List (Bor (List ℕ) × Class)) → Rows
words_of words = map (λ row. (row.0.now, row.1)) words.now

size_of : (array : List (Bor (List (Bor (List ℕ) × Class)))) → map words_of array ≡ letters → length array ≡ 26
unfolding letters
size_of array is = sym (length-map array words_of) ∙ ap length is

pub of_array : (array : List (Bor (List (Bor (List ℕ) × Class)))) (place : ℕ) (other : Bor (List (Bor (List ℕ) × Class))) (rest : List ℕ) →
    map words_of array ≡ letters → place < 26 →
    lookup (words_of (slice_index_or array place other)) ((97 + place) ∷ rest) ≡ class ((97 + place) ∷ rest)
of_array array place other rest is below =
    let size : length array ≡ 26 = size_of array is in
    ap (λ (words : Rows). lookup words ((97 + place) ∷ rest))
    (sym (get_or-map words_of array place other [] (omega arith)) ∙ ap (λ (lists : List Rows). slice_index_or lists place []) is)
    ∙ of_letter place [] rest below

pub of_word : (found : Rows) (word : List ℕ) (first : ℕ) → slice_get word 0 ≡ Some first →
    ((rest : List ℕ) → lookup found (first ∷ rest) ≡ class (first ∷ rest)) → lookup found word ≡ class word
of_word found [] first begins all = search rules
of_word found (own ∷ rest) first begins all =
    let same : own ≡ first = search rules in
    ap (λ (letter : ℕ). lookup found (letter ∷ rest)) same ∙ all rest ∙ ap (λ (letter : ℕ). class (letter ∷ rest)) (sym same)

outside : (first : ℕ) → ((first < 97) ⊎ (122 < first)) → (first < 97) ⊎ (97 + 26 ≤ first)
outside first (inl before) = inl before
outside first (inr after) = inr (omega arith)

pub of_no_letter : (word : List ℕ) → ((slice_index_or word 0 0 < 97) ⊎ (122 < slice_index_or word 0 0)) → Plain Other ≡ class word
unfolding rows letters
of_no_letter [] out = refl
of_no_letter (first ∷ rest) out = sym (none_of 97 first letters rest all_go (outside first out))
