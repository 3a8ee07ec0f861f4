-- The pairs of a startup message, whole.
use Rattle.std.proofs.Common.{◌≡◌, ℕ, ◌+◌, ◌<◌, List, [], ◌∷◌, ◌++◌, length, refl, sym, ◌∙◌, arith, append_assoc, append-nil, subst, length-append}
use Rattle.std.proofs.lemmas.List.Concat.{flat_map-append}
use Rattle.std.specs.Prelude.{flat_map}
use Rattle.std.specs.List.{AllByRecursion}
use Rattle.cell_base.specs.Texts.{HasNoZero}
use Rattle.client_framing.specs.Spelling.{Pair, pair_bytes, pairs_bytes, IsPair}
use Rattle.client_framing.specs.Reading.{HasNoPair, ArePairs}
use Rattle.cell_base.proofs.Zeros.{NoZero, no_zero_from}
use Rattle.client_framing.proofs.Zeros.{split_unique, contains_zero}

pub flat_pair : (n v after : List ℕ) → pair_bytes (n, v) ++ after ≡ n ++ (0 ∷ (v ++ (0 ∷ after)))
flat_pair n v after = simp append_assoc

-- the first pair, and the pairs after it
pub first_pair : (p : Pair) (ps : List Pair) → pairs_bytes (p ∷ ps) ≡ pair_bytes p ++ pairs_bytes ps
first_pair p ps = append_assoc (pair_bytes p) (flat_map pair_bytes ps) (0 ∷ [])

pub length-pair : (n v : List ℕ) → length (pair_bytes (n, v)) ≡ length n + length v + 2
length-pair n v = omega (arith, length-append n (0 ∷ (v ++ (0 ∷ []))), length-append v (0 ∷ []))

pub length-first : (p : Pair) (ps : List Pair) → length (pairs_bytes (p ∷ ps)) ≡ length (pair_bytes p) + length (pairs_bytes ps)
length-first p ps = rw first_pair (length-append (pair_bytes p) (pairs_bytes ps))

pub length-pairs : (pairs : List Pair) → 0 < length (pairs_bytes pairs)
length-pairs pairs = rw length-append (omega arith)

-- a pair and what stands after it are determined
pub pair_unique : (p q : Pair) (after more : List ℕ) → IsPair p → IsPair q → pair_bytes p ++ after ≡ pair_bytes q ++ more → (p ≡ q) × (after ≡ more)
pair_unique (n, v) (m, w) after more hp hq e =
    let e1 : n ++ (0 ∷ (v ++ (0 ∷ after))) ≡ m ++ (0 ∷ (w ++ (0 ∷ more))) = sym (flat_pair n v after) ∙ (e ∙ flat_pair m w more) in
    let first = split_unique n (v ++ (0 ∷ after)) m (w ++ (0 ∷ more)) (no_zero_from n hp.1) (no_zero_from m hq.1) e1 in
    let second = split_unique v after w more (no_zero_from v hp.2) (no_zero_from w hq.2) first.1 in
    (let a : n ≡ m = first.0 in let b : v ≡ w = second.0 in cc, second.1)

-- without a zero byte there is no pair
pub no_pair_at_all : (bytes : List ℕ) → HasNoZero bytes → HasNoPair bytes
no_pair_at_all bytes h (n, v) more p e =
    let f : bytes ≡ n ++ (0 ∷ (v ++ (0 ∷ more))) = e ∙ flat_pair n v more in
    contains_zero n (v ++ (0 ∷ more)) (let P : List ℕ → Type 0 = NoZero in subst P f (no_zero_from bytes h))

-- without a second zero byte there is no pair
pub no_pair_after : (bytes name after : List ℕ) → bytes ≡ name ++ (0 ∷ after) → HasNoZero name → HasNoZero after → HasNoPair bytes
no_pair_after bytes name after e no_zero none (n, v) more p f =
    let g : name ++ (0 ∷ after) ≡ n ++ (0 ∷ (v ++ (0 ∷ more))) = sym e ∙ (f ∙ flat_pair n v more) in
    let r = split_unique name after n (v ++ (0 ∷ more)) (no_zero_from name no_zero) (no_zero_from n p.1) g in
    contains_zero v more (let P : List ℕ → Type 0 = NoZero in subst P r.1 (no_zero_from after none))

-- the zero byte that ends the pairs begins no pair, whatever stands after it
pub end_is_no_pair : (after : List ℕ) → HasNoPair (0 ∷ after)
end_is_no_pair after ([], v) more h e = h.0 refl
end_is_no_pair after (x ∷ n, v) more h e = (no_zero_from (x ∷ n) h.1).0 (cc)

-- the pairs are determined by their bytes
pub pairs_unique : (ps qs : List Pair) → AllByRecursion IsPair ps → AllByRecursion IsPair qs → pairs_bytes ps ≡ pairs_bytes qs → ps ≡ qs
pairs_unique [] [] hp hq e = refl
pairs_unique [] (q ∷ qs) hp hq e = absurd (end_is_no_pair [] q (pairs_bytes qs) hq.0 (e ∙ first_pair q qs))
pairs_unique (p ∷ ps) [] hp hq e = absurd (end_is_no_pair [] p (pairs_bytes ps) hp.0 (sym e ∙ first_pair p ps))
pairs_unique (p ∷ ps) (q ∷ qs) hp hq e =
    let r = pair_unique p q (pairs_bytes ps) (pairs_bytes qs) hp.0 hq.0 (sym (first_pair p ps) ∙ (e ∙ first_pair q qs)) in
    let heads : p ≡ q = r.0 in
    let tails : ps ≡ qs = pairs_unique ps qs hp.1 hq.1 r.1 in
    cc

-- after a pair stand the pairs that are left
pub pairs_after : (rest after : List ℕ) (p : Pair) → ArePairs rest → IsPair p → rest ≡ pair_bytes p ++ after → ArePairs after
pairs_after rest after p are is_pair e = go are.pairs are.each are.whole
  where
    go : (qs : List Pair) → AllByRecursion IsPair qs → rest ≡ pairs_bytes qs → ArePairs after
    go [] h g = absurd (end_is_no_pair [] p after is_pair (sym g ∙ e))
    go (q ∷ qs) h g = record {
      pairs = qs;
      each = h.1;
      whole = (pair_unique p q after (pairs_bytes qs) is_pair h.0 (sym e ∙ (g ∙ first_pair q qs))).1;
    }

-- where no pair is left, the end is
pub only_end : (rest : List ℕ) → ArePairs rest → HasNoPair rest → rest ≡ 0 ∷ []
only_end rest are none = go are.pairs are.each are.whole
  where
    go : (qs : List Pair) → AllByRecursion IsPair qs → rest ≡ pairs_bytes qs → rest ≡ 0 ∷ []
    go [] h g = g
    go (q ∷ qs) h g = absurd (none q (pairs_bytes qs) h.0 (g ∙ first_pair q qs))

-- one more pair is read
pub pairs_more : (body rest after : List ℕ) (pair : Pair) (pairs : List Pair)
    → body ≡ flat_map pair_bytes pairs ++ rest → rest ≡ pair_bytes pair ++ after
    → body ≡ flat_map pair_bytes (pairs ++ pair ∷ []) ++ after
pairs_more body rest after pair pairs e f = rw (flat_map-append, e, f) (sym (simp (append_assoc, append-nil)))

pub each_more : (pairs : List Pair) (pair : Pair) → AllByRecursion IsPair pairs → IsPair pair → AllByRecursion IsPair (pairs ++ pair ∷ [])
each_more [] pair each is_pair = (is_pair, tt)
each_more (p ∷ pairs) pair each is_pair = (each.0, each_more pairs pair each.1 is_pair)
