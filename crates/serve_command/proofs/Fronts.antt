-- Lists that are taken apart from their end.
use Rattle.std.proofs.Common.{◌≡◌, ℕ, List, [], ◌∷◌, ◌++◌, length, map, suc, take, drop, refl, sym, ◌∙◌, ap}
use Rattle.std.proofs.lemmas.List.{append-nil, append_assoc}
use Rattle.turn_lock.proofs.Keys.{drop_front}

-- after all of a list nothing stands
pub drop_all : {X : Type 0} (xs : List X) → drop (length xs) xs ≡ []
drop_all [] = refl
drop_all (x ∷ xs) = drop_all xs

-- one item more stands after a front that is one item shorter
pub drop_one_more : {X : Type 0} (whole front rest : List X) (x : X) → whole ≡ (front ++ x ∷ []) ++ rest → drop (length front) whole ≡ x ∷ rest
drop_one_more whole front rest x is =
    ap (drop (length front)) (is ∙ append_assoc front (x ∷ []) rest) ∙ drop_front front (x ∷ rest)

take_all : {X : Type 0} (xs : List X) → take (length xs) xs ≡ xs
take_all [] = refl
take_all (x ∷ xs) = ap (λ l. x ∷ l) (take_all xs)

-- a list that is written back over one of its length
pub written_back : {X : Type 0} (old new : List X) (n : ℕ) → length new ≡ length old → n ≡ length old → take n (new ++ drop (length new) old) ≡ new
written_back {X} old new n same is =
    ap (λ (k : ℕ). take k (new ++ drop (length new) old)) (is ∙ sym same)
    ∙ ap (take (length new)) (ap (λ l. new ++ l) (ap (λ (k : ℕ). drop k old) same ∙ drop_all old) ∙ append-nil new)
    ∙ take_all new

pub length_of_map : {X Y : Type 0} (f : X → Y) (xs : List X) → length (map f xs) ≡ length xs
length_of_map f [] = refl
length_of_map f (x ∷ xs) = ap suc (length_of_map f xs)
