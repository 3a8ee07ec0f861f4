-- A list in which each element is put before the first that needn't stand before it: what it is, and that no other list is.
use Rattle.std.proofs.Common.{◌≡◌, ℕ, zero, suc, ◌<◌, Bool, true, false, not, ◌&&◌, cond, List, [], ◌∷◌, length, get_or, refl, sym, ap, ◌∙◌, subst, arith, add-one}
use Rattle.std.proofs.lemmas.List.Sorted.{IsPermutation-refl, IsPermutation-cons, IsPermutation-trans, IsPermutation-middle}
use Rattle.std.specs.Cmp.{IsStrictWeakOrder}
use Rattle.std.specs.List.{filter}
use Rattle.std.specs.List.Sorted.{IsPermutation, IsSortedBy, IsStableBy, ties}

module _ {X : Type 0} (lt : X → X → Bool) where
  abbrev pub put : X → List X → List X
  put x [] = x ∷ []
  put x (y ∷ ys) = cond (lt y x) (y ∷ put x ys) (x ∷ y ∷ ys)

  abbrev pub put_all : List X → List X
  put_all [] = []
  put_all (x ∷ xs) = put x (put_all xs)

  -- none of them is below x
  abbrev pub NoneBelow : X → List X → Type 0
  NoneBelow x [] = Unit {0}
  NoneBelow x (y ∷ ys) = (lt y x ≡ false) × NoneBelow x ys

  -- none is below one that stands before it
  abbrev pub Rises : List X → Type 0
  Rises [] = Unit {0}
  Rises (x ∷ xs) = NoneBelow x xs × Rises xs

  -- ---- the same elements

  swapped : (x y : X) (ys : List X) → IsPermutation (x ∷ y ∷ ys) (y ∷ x ∷ ys)
  swapped x y ys = IsPermutation-middle (x ∷ []) y ys

  put_by : (x y : X) (ys : List X) → IsPermutation (x ∷ ys) (put x ys) → (b : Bool) → IsPermutation (x ∷ y ∷ ys) (cond b (y ∷ put x ys) (x ∷ y ∷ ys))
  put_by x y ys h true = IsPermutation-trans _ _ _ (swapped x y ys) (IsPermutation-cons y _ _ h)
  put_by x y ys h false = IsPermutation-refl _

  put_permutes : (x : X) (ys : List X) → IsPermutation (x ∷ ys) (put x ys)
  put_permutes x [] = IsPermutation-refl _
  put_permutes x (y ∷ ys) = put_by x y ys (put_permutes x ys) (lt y x)

  pub all_permutes : (xs : List X) → IsPermutation xs (put_all xs)
  all_permutes [] = IsPermutation-refl _
  all_permutes (x ∷ xs) = IsPermutation-trans _ _ _ (IsPermutation-cons x _ _ (all_permutes xs)) (put_permutes x (put_all xs))

  module _ (o : IsStrictWeakOrder lt) where
    -- ---- ascending

    none_chain : (x y : X) (ys : List X) → lt y x ≡ false → NoneBelow y ys → NoneBelow x ys
    none_chain x y [] h n = tt
    none_chain x y (z ∷ ys) h n = (o.chain z y x n.0 h, none_chain x y ys h n.1)

    none_put_by : (w x y : X) (ys : List X) → lt x w ≡ false → lt y w ≡ false → NoneBelow w ys → NoneBelow w (put x ys) → (b : Bool) → NoneBelow w (cond b (y ∷ put x ys) (x ∷ y ∷ ys))
    none_put_by w x y ys h k n m true = (k, m)
    none_put_by w x y ys h k n m false = (h, (k, n))

    none_put : (w x : X) (ys : List X) → lt x w ≡ false → NoneBelow w ys → NoneBelow w (put x ys)
    none_put w x [] h n = (h, tt)
    none_put w x (y ∷ ys) h n = none_put_by w x y ys h n.0 n.1 (none_put w x ys h n.1) (lt y x)

    put_rises_by : (x y : X) (ys : List X) → NoneBelow y ys → Rises ys → Rises (put x ys) → (b : Bool) → lt y x ≡ b → Rises (cond b (y ∷ put x ys) (x ∷ y ∷ ys))
    put_rises_by x y ys n r m true h = (none_put y x ys (o.one_way y x h) n, m)
    put_rises_by x y ys n r m false h = ((h, none_chain x y ys h n), (n, r))

    put_rises : (x : X) (ys : List X) → Rises ys → Rises (put x ys)
    put_rises x [] r = (tt, tt)
    put_rises x (y ∷ ys) r = put_rises_by x y ys r.0 r.1 (put_rises x ys r.1) (lt y x) refl

    pub all_rises : (xs : List X) → Rises (put_all xs)
    all_rises [] = tt
    all_rises (x ∷ xs) = put_rises x (put_all xs) (all_rises xs)

    -- ---- those that tie stand as they stood

    tie_parts : (x y : X) → ties lt x y ≡ true → (lt x y ≡ false) × (lt y x ≡ false)
    tie_parts x y = by (lt x y) (lt y x)
      where
        by : (a b : Bool) → (not a && not b) ≡ true → (a ≡ false) × (b ≡ false)
        by false false h = (refl, refl)
        by true b h = cc
        by false true h = cc

    pub tie_whole : (x y : X) → lt x y ≡ false → lt y x ≡ false → ties lt x y ≡ true
    tie_whole x y h k = ap (λ a. not a && not (lt y x)) h ∙ ap not k

    kept : X → List X → List X
    kept z xs = filter (ties lt z) xs

    kept_by : (z x y : X) (ys : List X) → filter (ties lt z) (put x ys) ≡ cond (ties lt z x) (x ∷ filter (ties lt z) ys) (filter (ties lt z) ys) → lt y x ≡ true → (p q : Bool) → ties lt z x ≡ p → ties lt z y ≡ q
        → cond q (y ∷ filter (ties lt z) (put x ys)) (filter (ties lt z) (put x ys)) ≡ cond p (x ∷ cond q (y ∷ filter (ties lt z) ys) (filter (ties lt z) ys)) (cond q (y ∷ filter (ties lt z) ys) (filter (ties lt z) ys))
    kept_by z x y ys h below true true e f =
        let up : lt y x ≡ false = o.chain y z x (tie_parts z y f).1 (tie_parts z x e).0 in
        cc
    kept_by z x y ys h below true false e f = h ∙ ap (λ p. cond p (x ∷ filter (ties lt z) ys) (filter (ties lt z) ys)) e
    kept_by z x y ys h below false true e f = ap (λ r. y ∷ r) (h ∙ ap (λ p. cond p (x ∷ filter (ties lt z) ys) (filter (ties lt z) ys)) e)
    kept_by z x y ys h below false false e f = h ∙ ap (λ p. cond p (x ∷ filter (ties lt z) ys) (filter (ties lt z) ys)) e

    put_stable_by : (z x y : X) (ys : List X) → filter (ties lt z) (put x ys) ≡ filter (ties lt z) (x ∷ ys) → (b : Bool) → lt y x ≡ b
        → filter (ties lt z) (cond b (y ∷ put x ys) (x ∷ y ∷ ys)) ≡ filter (ties lt z) (x ∷ y ∷ ys)
    put_stable_by z x y ys h true below = kept_by z x y ys h below (ties lt z x) (ties lt z y) refl refl
    put_stable_by z x y ys h false below = refl

    put_stable : (z x : X) (ys : List X) → filter (ties lt z) (put x ys) ≡ filter (ties lt z) (x ∷ ys)
    put_stable z x [] = refl
    put_stable z x (y ∷ ys) = put_stable_by z x y ys (put_stable z x ys) (lt y x) refl

    pub all_stable : (xs : List X) → IsStableBy lt xs (put_all xs)
    all_stable [] z = refl
    all_stable (x ∷ xs) z = put_stable z x (put_all xs) ∙ ap (λ r. cond (ties lt z x) (x ∷ r) r) (all_stable xs z)

    -- ---- no other list is that

    pub not_below_itself : (x : X) → lt x x ≡ false
    not_below_itself x = by (lt x x) refl
      where
        by : (b : Bool) → lt x x ≡ b → b ≡ false
        by false h = refl
        by true h = sym h ∙ o.one_way x x h

    -- what ties with z stands among them, and none of them is below y
    least : (y z w : X) (xs ws : List X) → NoneBelow y xs → filter (ties lt z) xs ≡ w ∷ ws → lt z y ≡ false
    least y z w [] ws n h = cc
    least y z w (x ∷ xs) ws n h = by (least y z w xs ws n.1) (ties lt z x) refl
      where
        by : (filter (ties lt z) xs ≡ w ∷ ws → lt z y ≡ false) → (b : Bool) → ties lt z x ≡ b → lt z y ≡ false
        by more true e = o.chain z x y (tie_parts z x e).0 n.0
        by more false e = more (sym (ap (λ p. cond p (x ∷ filter (ties lt z) xs) (filter (ties lt z) xs)) e) ∙ h)

    ties_itself : (x : X) → ties lt x x ≡ true
    ties_itself x = tie_whole x x (not_below_itself x) (not_below_itself x)

    keeps_first : (z x : X) (xs : List X) → ties lt z x ≡ true → filter (ties lt z) (x ∷ xs) ≡ x ∷ filter (ties lt z) xs
    keeps_first z x xs e = ap (λ p. cond p (x ∷ filter (ties lt z) xs) (filter (ties lt z) xs)) e

    none_of : (y : X) (ys : List X) → NoneBelow y ys → NoneBelow y (y ∷ ys)
    none_of y ys n = (not_below_itself y, n)

    tails_by : (p : Bool) (y : X) (us vs : List X) → cond p (y ∷ us) us ≡ cond p (y ∷ vs) vs → us ≡ vs
    tails_by true y us vs h = cc
    tails_by false y us vs h = h

    pub one_rises : (ys zs : List X) → Rises ys → Rises zs → ((x : X) → filter (ties lt x) ys ≡ filter (ties lt x) zs) → ys ≡ zs
    one_rises [] [] r s h = refl
    one_rises [] (z ∷ zs) r s h = let e : [] ≡ z ∷ filter (ties lt z) zs = h z ∙ keeps_first z z zs (ties_itself z) in cc
    one_rises (y ∷ ys) [] r s h = let e : y ∷ filter (ties lt y) ys ≡ [] = sym (keeps_first y y ys (ties_itself y)) ∙ h y in cc
    one_rises (y ∷ ys) (z ∷ zs) r s h =
        let down : lt z y ≡ false = least y z z (y ∷ ys) (filter (ties lt z) zs) (none_of y ys r.0) (h z ∙ keeps_first z z zs (ties_itself z)) in
        let up : lt y z ≡ false = least z y y (z ∷ zs) (filter (ties lt y) ys) (none_of z zs s.0) (sym (h y) ∙ keeps_first y y ys (ties_itself y)) in
        let heads : y ∷ filter (ties lt y) ys ≡ z ∷ filter (ties lt y) zs = sym (keeps_first y y ys (ties_itself y)) ∙ h y ∙ keeps_first y z zs (tie_whole y z up down) in
        let first : y ≡ z = cc in
        let rest : (x : X) → filter (ties lt x) ys ≡ filter (ties lt x) zs = λ x. tails_by (ties lt x y) y (filter (ties lt x) ys) (filter (ties lt x) zs) (subst (λ w. filter (ties lt x) (y ∷ ys) ≡ filter (ties lt x) (w ∷ zs)) (sym first) (h x)) in
        let tails : ys ≡ zs = one_rises ys zs r.1 s.1 rest in
        cc

    -- ---- ascending, by neighbours

    ByNeighbours : List X → Type 0
    ByNeighbours xs = (k : ℕ) (d : X) → suc k < length xs → lt (get_or xs (suc k) d) (get_or xs k d) ≡ false

    rises_from : (xs : List X) → ((k : ℕ) (d : X) → suc k < length xs → lt (get_or xs (suc k) d) (get_or xs k d) ≡ false) → Rises xs
    rises_from [] h = tt
    rises_from (x ∷ []) h = (tt, tt)
    rises_from (x ∷ y ∷ ys) h =
        let rest : Rises (y ∷ ys) = rises_from (y ∷ ys) (λ k d under. h (suc k) d (omega arith)) in
        let first : lt y x ≡ false = h zero x (omega arith) in
        ((first, none_chain x y ys first rest.0), rest)

    rises_to : (xs : List X) → Rises xs → (k : ℕ) (d : X) → suc k < length xs → lt (get_or xs (suc k) d) (get_or xs k d) ≡ false
    rises_to [] r k d under = absurd (omega arith)
    rises_to (x ∷ []) r k d under = absurd (omega arith)
    rises_to (x ∷ y ∷ ys) r zero d under = r.0.0
    rises_to (x ∷ y ∷ ys) r (suc k) d under = rises_to (y ∷ ys) r.1 k d (omega arith)

    pub rises_from_sorted : (xs : List X) → IsSortedBy lt xs → Rises xs
    rises_from_sorted xs h = rises_from xs (λ k d under. subst (λ n. lt (get_or xs n d) (get_or xs k d) ≡ false) (add-one k) (h k d (omega arith) (omega arith)))

    pub sorted_from_rises : (xs : List X) → Rises xs → IsSortedBy lt xs
    sorted_from_rises xs r k d low under = subst (λ n. lt (get_or xs n d) (get_or xs k d) ≡ false) (sym (add-one k)) (rises_to xs r k d (omega arith))

    -- a list that is in order and stable is the list that puts each in its place
    pub is_put_all : (xs ys : List X) → IsSortedBy lt ys → IsStableBy lt xs ys → ys ≡ put_all xs
    is_put_all xs ys up stable = one_rises ys (put_all xs) (rises_from_sorted ys up) (all_rises xs) (λ x. stable x ∙ sym (all_stable xs x))
