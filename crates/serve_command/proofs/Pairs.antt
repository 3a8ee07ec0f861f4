-- What is done to each item of a list, item by item from the end.
use Rattle.std.proofs.Common.{◌≡◌, ◌<◌, ℕ, zero, suc, List, [], ◌∷◌, ◌++◌, length, refl, ap, arith}
use Rattle.std.specs.Prelude.{slice_index_or}
use Rattle.door_workers.specs.Pairs.{EachPair}

pair_tail : {X : Type 0} (R : X → X → Type 0) (x y : X) (xs ys : List X) → EachPair R (x ∷ xs) (y ∷ ys) → EachPair R xs ys
pair_tail R x y xs ys pairs = (omega (arith, pairs.0), λ i d small. pairs.1 (suc i) d (omega (arith, small)))

pair_head : {X : Type 0} (R : X → X → Type 0) (x y : X) (xs ys : List X) → EachPair R (x ∷ xs) (y ∷ ys) → R x y
pair_head R x y xs ys pairs = pairs.1 0 x (omega arith)

pair_cons : {X : Type 0} (R : X → X → Type 0) (x y : X) (xs ys : List X) → R x y → EachPair R xs ys → EachPair R (x ∷ xs) (y ∷ ys)
pair_cons {X} R x y xs ys one pairs = (omega (arith, pairs.0), at)
  where
    at : (i : ℕ) (d : X) → i < suc (length xs) → R (slice_index_or (x ∷ xs) i d) (slice_index_or (y ∷ ys) i d)
    at zero d small = one
    at (suc i) d small = pairs.1 i d (omega (arith, small))

pub record LastPair {X : Type 0} (R : X → X → Type 0) (front : List X) (x : X) (ys : List X) : Type 0 where
  pub before : List X
  pub last : X
  pub is : ys ≡ before ++ last ∷ []
  pub related : R x last
  pub rest : EachPair R front before

-- the last item, and those before it
pub last_pair : {X : Type 0} (R : X → X → Type 0) (front : List X) (x : X) (ys : List X) → EachPair R (front ++ x ∷ []) ys → LastPair R front x ys
last_pair R [] x [] pairs = absurd (omega (arith, pairs.0))
last_pair {X} R [] x (y ∷ []) pairs =
    record { before = []; last = y; is = refl; related = pair_head R x y [] [] pairs; rest = (refl, λ i d small. absurd (omega (arith, small))) }
last_pair R [] x (y ∷ z ∷ ys) pairs = absurd (omega (arith, pairs.0))
last_pair R (f ∷ front) x [] pairs = absurd (omega (arith, pairs.0))
last_pair R (f ∷ front) x (y ∷ ys) pairs =
    let later = last_pair R front x ys (pair_tail R f y (front ++ x ∷ []) ys pairs) in
    record {
      before = y ∷ later.before;
      last = later.last;
      is = ap (λ l. y ∷ l) later.is;
      related = later.related;
      rest = pair_cons R f y front later.before (pair_head R f y (front ++ x ∷ []) ys pairs) later.rest;
    }
