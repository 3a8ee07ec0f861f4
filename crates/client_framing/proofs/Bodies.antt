-- What bytes can go on to be pairs and their end.
use Rattle.std.proofs.Common.{◌≡◌, ◌≢◌, ℕ, ◌+◌, ◌-◌, ◌≤◌, ◌<◌, List, [], ◌∷◌, ◌++◌, length, refl, sym, ◌∙◌, ap, arith, append_assoc, length-append, inl, inr, eqb, leb, true}
use Rattle.std.specs.Prelude.{◌⊎◌, ◌↔◌, IsTrue}
use Rattle.std.proofs.lemmas.Bool.{eq-eqb, eqb-true, leb-true, le-leb}
use Rattle.std.specs.List.{AllByRecursion}
use Rattle.cell_base.specs.Texts.{HasNoZero}
use Rattle.client_framing.specs.Spelling.{Pair, pair_bytes, pairs_bytes, IsPair}
use Rattle.client_framing.specs.Reading.{CanBePairs}
use Rattle.cell_base.proofs.Zeros.{NoZero, no_zero_from, has_no_zero, no_zero-append}
use Rattle.client_framing.proofs.Zeros.{ones, length-ones, no_zero-ones, split_unique, before_zero}
use Rattle.client_framing.proofs.PairLists.{flat_pair, first_pair, length-pair, length-first, length-pairs, pair_unique, end_is_no_pair}

no_zero_nil : HasNoZero []
no_zero_nil = has_no_zero [] tt

-- one pair alone
alone : (n v : List ℕ) → pairs_bytes ((n, v) ∷ []) ≡ n ++ (0 ∷ (v ++ (0 ∷ 0 ∷ [])))
alone n v = first_pair (n, v) [] ∙ flat_pair n v (0 ∷ [])

length-alone : (n v : List ℕ) → length (pairs_bytes ((n, v) ∷ [])) ≡ length n + length v + 3
length-alone n v = length-first (n, v) [] ∙ rw length-pair (omega arith)

some_name : (n : List ℕ) → n ≢ [] → 0 < length n
some_name [] h = absurd (h refl)
some_name (x ∷ n) h = omega arith

none_of : (n : ℕ) (xs : List ℕ) → 0 < length xs → xs ≢ []
none_of n [] h e = omega arith
none_of n (x ∷ xs) h e = cc

-- nothing is held: room for the end alone, or for a pair too
pub nothing_can : (room : ℕ) → (room ≡ 1) ⊎ (4 ≤ room) → CanBePairs room []
nothing_can room h = elim h [ inl one ↦ end_alone one | inr four ↦ with_pair four ]
  where
    end_alone : room ≡ 1 → CanBePairs room []
    end_alone one = record { pairs = []; more = 0 ∷ []; each = tt; fills = sym one; whole = refl }

    with_pair : 4 ≤ room → CanBePairs room []
    with_pair four =
        let n = ones (room - 3) in
        let size : length n ≡ room - 3 = length-ones (room - 3) in
        record {
          pairs = (n, []) ∷ [];
          more = pairs_bytes ((n, []) ∷ []);
          each = ((none_of 0 n (omega arith), has_no_zero n (no_zero-ones (room - 3)), no_zero_nil), tt);
          fills = length-alone n [] ∙ omega arith;
          whole = refl;
        }

pub nothing_needs : (room : ℕ) → CanBePairs room [] → (room ≡ 1) ⊎ (4 ≤ room)
nothing_needs room can = go can.pairs can.each can.fills
  where
    go : (ps : List Pair) → AllByRecursion IsPair ps → length (pairs_bytes ps) ≡ room → (room ≡ 1) ⊎ (4 ≤ room)
    go [] h e = inl (sym e)
    go ((n, v) ∷ ps) h e =
        let a = some_name n h.0.0 in
        let b = length-pairs ps in
        inr (omega (arith, length-first (n, v) ps, length-pair n v))

-- a name is held in part
pub name_can : (room : ℕ) (rest : List ℕ) → rest ≢ [] → HasNoZero rest → length rest + 3 ≤ room → CanBePairs room rest
name_can room rest some no_zero fits =
    let fill = ones (room - (length rest + 3)) in
    let size : length fill ≡ room - (length rest + 3) = length-ones (room - (length rest + 3)) in
    let name = rest ++ fill in
    let a = some_name rest some in
    record {
      pairs = (name, []) ∷ [];
      more = fill ++ (0 ∷ 0 ∷ 0 ∷ []);
      each = ((none_of 0 name (omega (arith, length-append rest fill)), has_no_zero name (no_zero-append rest fill (no_zero_from rest no_zero) (no_zero-ones (room - (length rest + 3)))), no_zero_nil), tt);
      fills = length-alone name [] ∙ omega (arith, length-append rest fill);
      whole = sym (alone name [] ∙ append_assoc rest fill (0 ∷ 0 ∷ 0 ∷ []));
    }

starts : (a : List ℕ) (b c : List ℕ) → a ≢ [] → NoZero a → a ++ b ≡ 0 ∷ c → ⊥
starts [] b c some no_zero e = some refl
starts (x ∷ a) b c some no_zero e = no_zero.0 (cc)

pub name_needs : (room : ℕ) (rest : List ℕ) → rest ≢ [] → HasNoZero rest → CanBePairs room rest → length rest + 3 ≤ room
name_needs room rest some no_zero can = go can.pairs can.each can.fills can.whole
  where
    go : (ps : List Pair) → AllByRecursion IsPair ps → length (pairs_bytes ps) ≡ room → rest ++ can.more ≡ pairs_bytes ps → length rest + 3 ≤ room
    go [] h e w = absurd (starts rest can.more [] some (no_zero_from rest no_zero) w)
    go ((n, v) ∷ ps) h e w =
        let a : length rest ≤ length n = before_zero rest can.more n (v ++ (0 ∷ pairs_bytes ps)) (no_zero_from rest no_zero) (w ∙ (first_pair (n, v) ps ∙ flat_pair n v (pairs_bytes ps))) in
        let b = length-pairs ps in
        omega (arith, length-first (n, v) ps, length-pair n v)

-- a name is held, and its value in part
pub value_can : (room : ℕ) (rest name after : List ℕ) → rest ≡ name ++ (0 ∷ after) → name ≢ [] → HasNoZero name → HasNoZero after → length rest + 2 ≤ room → CanBePairs room rest
value_can room rest name after is some no_zero none fits =
    let fill = ones (room - (length rest + 2)) in
    let size : length fill ≡ room - (length rest + 2) = length-ones (room - (length rest + 2)) in
    let value = after ++ fill in
    let long : length rest ≡ length name + (1 + length after) = omega (arith, ap length is, length-append name (0 ∷ after)) in
    record {
      pairs = (name, value) ∷ [];
      more = fill ++ (0 ∷ 0 ∷ []);
      each = ((some, no_zero, has_no_zero value (no_zero-append after fill (no_zero_from after none) (no_zero-ones (room - (length rest + 2))))), tt);
      fills = length-alone name value ∙ omega (arith, length-append after fill);
      whole = ap (λ (x : List ℕ). x ++ (fill ++ (0 ∷ 0 ∷ []))) is ∙ sym (alone name value ∙ regroup name after fill);
    }
  where
    regroup : (n a f : List ℕ) → n ++ (0 ∷ ((a ++ f) ++ (0 ∷ 0 ∷ []))) ≡ (n ++ (0 ∷ a)) ++ (f ++ (0 ∷ 0 ∷ []))
    regroup n a f = simp append_assoc

pub value_needs : (room : ℕ) (rest name after : List ℕ) → rest ≡ name ++ (0 ∷ after) → name ≢ [] → HasNoZero name → HasNoZero after → CanBePairs room rest → length rest + 2 ≤ room
value_needs room rest name after is some no_zero none can = go can.pairs can.each can.fills can.whole
  where
    flat : name ++ (0 ∷ (after ++ can.more)) ≡ rest ++ can.more
    flat = sym (ap (λ (x : List ℕ). x ++ can.more) is ∙ append_assoc name (0 ∷ after) can.more)

    long : length rest ≡ length name + (1 + length after)
    long = omega (arith, ap length is, length-append name (0 ∷ after))

    go : (ps : List Pair) → AllByRecursion IsPair ps → length (pairs_bytes ps) ≡ room → rest ++ can.more ≡ pairs_bytes ps → length rest + 2 ≤ room
    go [] h e w = absurd (starts name (0 ∷ (after ++ can.more)) [] some (no_zero_from name no_zero) (flat ∙ w))
    go ((n, v) ∷ ps) h e w =
        let r = split_unique name (after ++ can.more) n (v ++ (0 ∷ pairs_bytes ps)) (no_zero_from name no_zero) (no_zero_from n h.0.1) (flat ∙ (w ∙ (first_pair (n, v) ps ∙ flat_pair n v (pairs_bytes ps)))) in
        let same : length name ≡ length n = ap length r.0 in
        let a : length after ≤ length v = before_zero after can.more v (pairs_bytes ps) (no_zero_from after none) r.1 in
        let b = length-pairs ps in
        omega (arith, length-first (n, v) ps, length-pair n v, long)

-- the end is held
pub end_can : (room : ℕ) (after : List ℕ) → 1 + length after ≤ room → room ≡ 1 → CanBePairs room (0 ∷ after)
end_can room [] fits one = record { pairs = []; more = []; each = tt; fills = sym one; whole = refl }
end_can room (x ∷ after) fits one = absurd (omega arith)

pub end_needs : (room : ℕ) (after : List ℕ) → CanBePairs room (0 ∷ after) → room ≡ 1
end_needs room after can = go can.pairs can.each can.fills can.whole
  where
    go : (ps : List Pair) → AllByRecursion IsPair ps → length (pairs_bytes ps) ≡ room → 0 ∷ (after ++ can.more) ≡ pairs_bytes ps → room ≡ 1
    go [] h e w = sym e
    go (p ∷ ps) h e w = absurd (end_is_no_pair (after ++ can.more) p (pairs_bytes ps) h.0 (w ∙ first_pair p ps))

-- a pair is held, and what stands after it can go on in the room that is left
pub pair_can : (room left : ℕ) (rest following : List ℕ) (p : Pair) → IsPair p → rest ≡ pair_bytes p ++ following → room ≡ length (pair_bytes p) + left → CanBePairs left following → CanBePairs room rest
pair_can room left rest following p is_pair is size can = record {
  pairs = p ∷ can.pairs;
  more = can.more;
  each = (is_pair, can.each);
  fills = length-first p can.pairs ∙ omega (arith, can.fills);
  whole = ap (λ (x : List ℕ). x ++ can.more) is ∙ (append_assoc (pair_bytes p) following can.more ∙ (ap (λ (x : List ℕ). pair_bytes p ++ x) can.whole ∙ sym (first_pair p can.pairs)));
}

pub pair_needs : (room left : ℕ) (rest following : List ℕ) (p : Pair) → IsPair p → rest ≡ pair_bytes p ++ following → room ≡ length (pair_bytes p) + left → CanBePairs room rest → CanBePairs left following
pair_needs room left rest following p is_pair is size can = go can.pairs can.each can.fills can.whole
  where
    flat : pair_bytes p ++ (following ++ can.more) ≡ rest ++ can.more
    flat = sym (ap (λ (x : List ℕ). x ++ can.more) is ∙ append_assoc (pair_bytes p) following can.more)

    go : (ps : List Pair) → AllByRecursion IsPair ps → length (pairs_bytes ps) ≡ room → rest ++ can.more ≡ pairs_bytes ps → CanBePairs left following
    go [] h e w = absurd (end_is_no_pair [] p (following ++ can.more) is_pair (sym w ∙ sym flat))
    go (q ∷ qs) h e w =
        let r = pair_unique p q (following ++ can.more) (pairs_bytes qs) is_pair h.0 (flat ∙ (w ∙ first_pair q qs)) in
        let same : length (pair_bytes p) ≡ length (pair_bytes q) = ap (λ (x : Pair). length (pair_bytes x)) r.0 in
        record { pairs = qs; more = can.more; each = h.1; fills = omega (arith, length-first q qs); whole = r.1 }

empty : (xs : List ℕ) → length xs ≡ 0 → xs ≡ []
empty [] e = refl
empty (x ∷ xs) e = absurd (omega arith)

pub empty_tells : (xs : List ℕ) → true ≡ eqb (length xs) 0 → xs ≡ []
empty_tells xs e = empty xs (eqb-true (length xs) 0 (sym e))

pub after_same : {A B C : Type 0} → (A ↔ B) → (B ↔ C) → A ↔ C
after_same f g = (λ a. g.0 (f.0 a), λ c. f.1 (g.1 c))

-- what the code's tests tell
pub name_tells : (room : ℕ) (rest : List ℕ) → rest ≢ [] → HasNoZero rest → length rest ≤ room → IsTrue (leb 3 (room - length rest)) ↔ CanBePairs room rest
name_tells room rest some no_zero fits =
    (λ t. let a = leb-true 3 (room - length rest) t in name_can room rest some no_zero (omega arith), λ can. let b = name_needs room rest some no_zero can in le-leb 3 (room - length rest) (omega arith))

pub value_tells : (room : ℕ) (rest name after : List ℕ) → rest ≡ name ++ (0 ∷ after) → name ≢ [] → HasNoZero name → HasNoZero after → length rest ≤ room
    → IsTrue (leb 2 (room - length rest)) ↔ CanBePairs room rest
value_tells room rest name after is some no_zero none fits = (
  λ t. let a = leb-true 2 (room - length rest) t in value_can room rest name after is some no_zero none (omega arith),
  λ can.
      let b = value_needs room rest name after is some no_zero none can in le-leb 2 (room - length rest) (omega arith),
)

pub end_tells : (room : ℕ) (rest name after : List ℕ) → rest ≡ name ++ (0 ∷ after) → name ≡ [] → length rest ≤ room → IsTrue (eqb room 1) ↔ CanBePairs room rest
end_tells room rest name after is none fits = rw same (λ t. end_can room after (omega (arith, ap length same)) (eqb-true room 1 t), λ can. eq-eqb room 1 (end_needs room after can))
  where
    same : rest ≡ 0 ∷ after
    same = is ∙ ap (λ (x : List ℕ). x ++ (0 ∷ after)) none

pub nothing_tells : (room : ℕ) (rest : List ℕ) (b : Type 0) → rest ≡ [] → (b ↔ ((room ≡ 1) ⊎ (4 ≤ room))) → b ↔ CanBePairs room rest
nothing_tells room rest b none tells = rw none (λ t. nothing_can room (tells.0 t), λ can. tells.1 (nothing_needs room can))

-- a pair is read over
pub record ReadsPair (room : ℕ) (rest following : List ℕ) : Type 0 where
  pub shorter : length following < length rest
  pub fits : length following ≤ room - (length rest - length following)
  pub same : CanBePairs (room - (length rest - length following)) following ↔ CanBePairs room rest

pub reads_pair : (room : ℕ) (rest name value after following : List ℕ) → rest ≡ name ++ (0 ∷ after) → after ≡ value ++ (0 ∷ following) → name ≢ [] → HasNoZero name → HasNoZero value → length rest ≤ room
    → ReadsPair room rest following
reads_pair room rest name value after following e f some no_zero none fits =
    let is : rest ≡ pair_bytes (name, value) ++ following = e ∙ (ap (λ (x : List ℕ). name ++ (0 ∷ x)) f ∙ sym (flat_pair name value following)) in
    let long : length rest ≡ length (pair_bytes (name, value)) + length following = ap length is ∙ length-append (pair_bytes (name, value)) following in
    let left = room - (length rest - length following) in
    let some_bytes : length (pair_bytes (name, value)) ≡ length name + length value + 2 = length-pair name value in
    let size : room ≡ length (pair_bytes (name, value)) + left = omega arith in
    record {
      shorter = omega arith;
      fits = omega arith;
      same = (pair_can room left rest following (name, value) (some, no_zero, none) is size, pair_needs room left rest following (name, value) (some, no_zero, none) is size);
    }
