-- All values of a list with one item more after, or the first code.
use Rattle.std.proofs.Common.{◌≡◌, List, [], ◌∷◌, ◌++◌, map, Ok, Err, refl, ap, ◌∙◌}
use Rattle.cell_base.specs.declared.sql_state.SqlState.{SqlState}
use Rattle.typing_rules.specs.Outcome.{Outcome, and_then, all_of}

pub all_snoc : {A B : Type 0} (f : A → Outcome B) (xs : List A) (x : A) (ys : List B) (y : B) → all_of (map f xs) ≡ Ok ys → f x ≡ Ok y → all_of (map f (xs ++ x ∷ [])) ≡ Ok (ys ++ y ∷ [])
all_snoc f [] x [] y h e = rw e refl
all_snoc f [] x (z ∷ ys) y h e = cc
all_snoc {A = A} {B = B} f (w ∷ xs) x ys y h e = by (all_snoc f xs x) (f w) (all_of (map f xs)) refl h
  where
    by : ((ys : List B) (y : B) → all_of (map f xs) ≡ Ok ys → f x ≡ Ok y → all_of (map f (xs ++ x ∷ [])) ≡ Ok (ys ++ y ∷ [])) → (o : Outcome B) (os : Outcome (List B)) → all_of (map f xs) ≡ os
        → and_then o (λ v. and_then os (λ vs. Ok (v ∷ vs))) ≡ Ok ys → and_then o (λ v. and_then (all_of (map f (xs ++ x ∷ []))) (λ vs. Ok (v ∷ vs))) ≡ Ok (ys ++ y ∷ [])
    by more (Err code) os k g = cc
    by more (Ok v) (Err code) k g = cc
    by more (Ok v) (Ok vs) k g =
        let is : v ∷ vs ≡ ys = cc in
        ap (λ o. and_then o (λ us. Ok (v ∷ us))) (more vs y k e) ∙ ap (λ us. Ok (us ++ y ∷ [])) is

pub all_fault : {A B : Type 0} (f : A → Outcome B) (xs : List A) (x : A) (more : List A) (ys : List B) (code : SqlState) → all_of (map f xs) ≡ Ok ys → f x ≡ Err code → all_of (map f (xs ++ x ∷ more)) ≡ Err code
all_fault f [] x more ys code h e = rw e refl
all_fault {A = A} {B = B} f (w ∷ xs) x more ys code h e = by (all_fault f xs x more) (f w) (all_of (map f xs)) refl h
  where
    by : ((ys : List B) (code : SqlState) → all_of (map f xs) ≡ Ok ys → f x ≡ Err code → all_of (map f (xs ++ x ∷ more)) ≡ Err code) → (o : Outcome B) (os : Outcome (List B)) → all_of (map f xs) ≡ os
        → and_then o (λ v. and_then os (λ vs. Ok (v ∷ vs))) ≡ Ok ys → and_then o (λ v. and_then (all_of (map f (xs ++ x ∷ more))) (λ vs. Ok (v ∷ vs))) ≡ Err code
    by again (Err c) os k g = cc
    by again (Ok v) (Err c) k g = cc
    by again (Ok v) (Ok vs) k g = ap (λ o. and_then o (λ us. Ok (v ∷ us))) (again vs code k e)
