-- A stable sort gives the list that placing the elements one by one gives.
use Rattle.std.proofs.Common.{◌≡◌, ℕ, suc, ◌≤◌, ◌<◌, Bool, true, false, not, ◌&&◌, cond, List, [], ◌∷◌, length, get_or, refl, sym, ap, subst, ◌∙◌, arith}
use Rattle.std.specs.Cmp.{IsStrictWeakOrder}
use Rattle.std.specs.List.{filter}
use Rattle.std.specs.List.Sorted.{IsSortedBy, IsStableBy, IsSortedByClosure, IsStableByClosure, ties}
use Rattle.std.specs.Fn.{Called}
use Rattle.std.specs.Ordering.{is_lt}
use Rattle.std.specs.declared.cmp.Ordering.{Ordering}
use Rattle.std.proofs.lemmas.Fn.{always_returns_same}
use Rattle.std.proofs.lemmas.List.Sorted.{sorted_far}
use denote.Param.Members.{Mut}
use denote.Ref.{Bor}

-- an element among others that are in order: before the first that isn't less
abbrev pub placed_by : {X : Type 0} → (X → X → Bool) → X → List X → List X
placed_by lt x [] = x ∷ []
placed_by lt x (y ∷ ys) = cond (lt y x) (y ∷ placed_by lt x ys) (x ∷ y ∷ ys)

abbrev pub sorted_by : {X : Type 0} → (X → X → Bool) → List X → List X
sorted_by lt [] = []
sorted_by lt (x ∷ xs) = placed_by lt x (sorted_by lt xs)

not_itself : (b : Bool) → (b ≡ true → b ≡ false) → b ≡ false
not_itself true h = h refl
not_itself false h = refl

neither : (a b : Bool) → not a && not b ≡ true → (a ≡ false) × (b ≡ false)
neither true b e = cc
neither false true e = cc
neither false false e = (refl, refl)

tail_same : {X : Type 0} (b : Bool) (x : X) (l m : List X) → cond b (x ∷ l) l ≡ cond b (x ∷ m) m → l ≡ m
tail_same true x l m e = cc
tail_same false x l m e = e

module _ {X : Type 0} (lt : X → X → Bool) (order : IsStrictWeakOrder lt) where
  -- no element is less than x
  abbrev pub NoneBelow : X → List X → Type 0
  NoneBelow x [] = Unit {0}
  NoneBelow x (y ∷ ys) = (lt y x ≡ false) × NoneBelow x ys

  abbrev pub Rises : List X → Type 0
  Rises [] = Unit {0}
  Rises (x ∷ xs) = NoneBelow x xs × Rises xs

  irreflexive : (x : X) → lt x x ≡ false
  irreflexive x = not_itself (lt x x) (order.one_way x x)

  tie : (x y : X) → lt x y ≡ false → lt y x ≡ false → ties lt x y ≡ true
  tie x y e f = rw (e, f) refl

  -- ---- what std's sort says

  none_below_of : (x : X) (xs : List X) → ((k : ℕ) → k < length xs → lt (get_or xs k x) x ≡ false) → NoneBelow x xs
  none_below_of x [] h = tt
  none_below_of x (y ∷ ys) h = (h 0 (omega arith), none_below_of x ys (λ k p. h (suc k) (omega arith)))

  rises_far : (xs : List X) → ((i j : ℕ) (d : X) → i ≤ j → j < length xs → lt (get_or xs j d) (get_or xs i d) ≡ false) → Rises xs
  rises_far [] h = tt
  rises_far (x ∷ xs) h =
      (none_below_of x xs (λ k p. h 0 (suc k) x (omega arith) (omega arith)), rises_far xs (λ i j d p q. h (suc i) (suc j) d (omega arith) (omega arith)))

  pub rises_of : (xs : List X) → IsSortedBy lt xs → Rises xs
  rises_of xs up = rises_far xs (sorted_far lt order xs up)

  -- ---- placing keeps the order

  none_below_placed : (x y : X) (ys : List X) → lt y x ≡ false → NoneBelow x ys → NoneBelow x (placed_by lt y ys)
  none_below_placed x y [] p q = (p, tt)
  none_below_placed x y (z ∷ ys) p q = chosen (none_below_placed x y ys p q.1) (lt z y)
    where
      chosen : NoneBelow x (placed_by lt y ys) → (b : Bool) → NoneBelow x (cond b (z ∷ placed_by lt y ys) (y ∷ z ∷ ys))
      chosen h true = (q.0, h)
      chosen h false = (p, q)

  lower : (x y : X) (ys : List X) → lt y x ≡ false → NoneBelow y ys → NoneBelow x ys
  lower x y [] p q = tt
  lower x y (z ∷ ys) p q = (order.chain z y x q.0 p, lower x y ys p q.1)

  rises_placed : (y : X) (ys : List X) → Rises ys → Rises (placed_by lt y ys)
  rises_placed y [] h = (tt, tt)
  rises_placed y (z ∷ ys) h = chosen (rises_placed y ys h.1) (lt z y) refl
    where
      chosen : Rises (placed_by lt y ys) → (b : Bool) → lt z y ≡ b → Rises (cond b (z ∷ placed_by lt y ys) (y ∷ z ∷ ys))
      chosen more true e = (none_below_placed z y ys (order.one_way z y e) h.0, more)
      chosen more false e = ((e, lower y z ys e h.0), h)

  pub sorted_rises : (xs : List X) → Rises (sorted_by lt xs)
  sorted_rises [] = tt
  sorted_rises (x ∷ xs) = rises_placed x (sorted_by lt xs) (sorted_rises xs)

  -- ---- elements that tie stand as they stood

  swapped : (x y : X) (a b : Bool) (l : List X) → (a ≡ true → b ≡ true → ⊥)
      → cond a (x ∷ cond b (y ∷ l) l) (cond b (y ∷ l) l) ≡ cond b (y ∷ cond a (x ∷ l) l) (cond a (x ∷ l) l)
  swapped x y true true l h = absurd (h refl refl)
  swapped x y true false l h = refl
  swapped x y false true l h = refl
  swapped x y false false l h = refl

  apart : (x y z : X) → lt z y ≡ true → ties lt x z ≡ true → ties lt x y ≡ true → ⊥
  apart x y z e f g =
      let p : (lt x z ≡ false) × (lt z x ≡ false) = neither (lt x z) (lt z x) f in
      let q : (lt x y ≡ false) × (lt y x ≡ false) = neither (lt x y) (lt y x) g in
      let no : lt z y ≡ false = order.chain z x y p.1 q.0 in
      cc

  kept_placed : (x y : X) (ys : List X) → filter (ties lt x) (placed_by lt y ys) ≡ filter (ties lt x) (y ∷ ys)
  kept_placed x y [] = refl
  kept_placed x y (z ∷ ys) = chosen (kept_placed x y ys) (lt z y) refl
    where
      chosen : filter (ties lt x) (placed_by lt y ys) ≡ filter (ties lt x) (y ∷ ys) → (b : Bool) → lt z y ≡ b
          → filter (ties lt x) (cond b (z ∷ placed_by lt y ys) (y ∷ z ∷ ys)) ≡ filter (ties lt x) (y ∷ z ∷ ys)
      chosen more true e =
          ap (λ l. cond (ties lt x z) (z ∷ l) l) more
          ∙ swapped z y (ties lt x z) (ties lt x y) (filter (ties lt x) ys) (apart x y z e)
      chosen more false e = refl

  pub sorted_stable : (xs : List X) → IsStableBy lt xs (sorted_by lt xs)
  sorted_stable [] x = refl
  sorted_stable (y ∷ xs) x =
      kept_placed x y (sorted_by lt xs) ∙ ap (λ l. cond (ties lt x y) (y ∷ l) l) (sorted_stable xs x)

  -- ---- there is one such list

  first_kept : (p : X → Bool) (z : X) (l : List X) (w : X) (rest : List X) → NoneBelow z l → filter p l ≡ w ∷ rest → lt w z ≡ false
  first_kept p z [] w rest h e = cc
  first_kept p z (a ∷ l) w rest h e = chosen (first_kept p z l w rest h.1) (p a) e
    where
      chosen : (filter p l ≡ w ∷ rest → lt w z ≡ false) → (b : Bool) → cond b (a ∷ filter p l) (filter p l) ≡ w ∷ rest → lt w z ≡ false
      chosen more true e = let same : a ≡ w = cc in rw (← same) h.0
      chosen more false e = more e

  own_kept : (y : X) (ys : List X) → filter (ties lt y) (y ∷ ys) ≡ y ∷ filter (ties lt y) ys
  own_kept y ys = rw (tie y y (irreflexive y) (irreflexive y)) refl

  heads : (y z : X) (ys zs : List X) → ties lt y z ≡ true → filter (ties lt y) (y ∷ ys) ≡ filter (ties lt y) (z ∷ zs) → y ≡ z
  heads y z ys zs t same =
      let left : filter (ties lt y) (y ∷ ys) ≡ y ∷ filter (ties lt y) ys = own_kept y ys in
      let right : filter (ties lt y) (z ∷ zs) ≡ z ∷ filter (ties lt y) zs = ap (λ b. cond b (z ∷ filter (ties lt y) zs) (filter (ties lt y) zs)) t in
      let both : y ∷ filter (ties lt y) ys ≡ z ∷ filter (ties lt y) zs = sym left ∙ same ∙ right in
      cc

  tails : (x y z : X) (ys zs : List X) → y ≡ z → filter (ties lt x) (y ∷ ys) ≡ filter (ties lt x) (z ∷ zs) → filter (ties lt x) ys ≡ filter (ties lt x) zs
  tails x y z ys zs e same =
      tail_same (ties lt x y) y (filter (ties lt x) ys) (filter (ties lt x) zs)
      (subst (λ w. filter (ties lt x) (y ∷ ys) ≡ filter (ties lt x) (w ∷ zs)) (sym e) same)

  pub unique : (ys zs : List X) → Rises ys → Rises zs → ((x : X) → filter (ties lt x) ys ≡ filter (ties lt x) zs) → ys ≡ zs
  unique [] [] hy hz same = refl
  unique [] (z ∷ zs) hy hz same = let e : [] ≡ z ∷ filter (ties lt z) zs = same z ∙ own_kept z zs in cc
  unique (y ∷ ys) [] hy hz same = let e : y ∷ filter (ties lt y) ys ≡ [] = sym (own_kept y ys) ∙ same y in cc
  unique (y ∷ ys) (z ∷ zs) hy hz same =
      let above : lt y z ≡ false = first_kept (ties lt y) z (z ∷ zs) y (filter (ties lt y) ys) (irreflexive z, hz.0) (sym (same y) ∙ own_kept y ys) in
      let below : lt z y ≡ false = first_kept (ties lt z) y (y ∷ ys) z (filter (ties lt z) zs) (irreflexive y, hy.0) (same z ∙ own_kept z zs) in
      let first : y ≡ z = heads y z ys zs (tie y z above below) (same y) in
      let rest : ys ≡ zs = unique ys zs hy.1 hz.1 (λ x. tails x y z ys zs first (same x)) in
      cc

  pub sorted_is : (xs ys : List X) → IsSortedBy lt ys → IsStableBy lt xs ys → ys ≡ sorted_by lt xs
  sorted_is xs ys up stable = unique ys (sorted_by lt xs) (rises_of ys up) (sorted_rises xs) (λ x. stable x ∙ sym (sorted_stable xs x))

  -- from the clauses of `sort_by`, where each call of its closure answers `Less` just where the first is less
  pub sorted_from : {F : Type 0} {g : Mut F (Bor X × (Bor X × Unit {0})) Ordering} {f : F} (xs ys : List X)
      → IsSortedByClosure g f ys → IsStableByClosure g f xs ys
      → ((a : Bor X × (Bor X × Unit {0})) (r : Ordering) (f' : F) → Called g f a r f' → (is_lt r ≡ lt a.0.now a.1.0.now) × (f' ≡ f))
      → ys ≡ sorted_by lt xs
  sorted_from {g = g} {f = f} xs ys up stable h =
      let compares = always_returns_same g (λ a r. is_lt r ≡ lt a.0.now a.1.0.now) f h in
      sorted_is xs ys (up lt order compares) (stable lt order compares)
