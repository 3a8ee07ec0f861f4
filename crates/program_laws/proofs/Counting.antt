-- Counts that rose, and objects that a host has handed out and has back.
use Rattle.std.proofs.Common.{◌≡◌, ◌≤◌, ℕ, List, [], ◌∷◌, ◌++◌, sym, subst, arith, rules}
use Rattle.std.specs.Prelude.{Contains}
use Rattle.std.proofs.lemmas.List.Elements.{Contains-append_right}
use Rattle.link_traits.specs.Faults.{Rose, counted}

-- a count that is one more rose
pub one_more : (before after : ℕ) → after ≡ counted before → Rose before after
one_more before after is = subst (λ (n : ℕ). counted before ≤ n) (sym is) (omega arith)

-- what came last is in a list
pub last_in : {A : Type 0} → (list before : List A) (a : A) → list ≡ before ++ a ∷ [] → Contains list a
last_in {A} list before a is = subst (λ (l : List A). Contains l a) (sym is) (Contains-append_right before (a ∷ []) a (search rules))
