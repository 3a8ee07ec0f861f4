-- The pairs of rows, and what closed rows say of them.
use Rattle.std.proofs.Common.{◌≡◌, ℕ, ◌+◌, ◌<◌, zero, suc, List, [], ◌∷◌, ◌++◌, length, get_or, refl, ap, sym, ◌∙◌, subst, inl, inr, arith}
use Rattle.std.specs.Prelude.{map}
use Rattle.std.specs.List.{Contains}
use Rattle.std.proofs.lemmas.Bool.{cases_lt}
use Rattle.std.proofs.lemmas.List.{get_or_past}
use Rattle.std.proofs.lemmas.List.Elements.{Contains-get_or, Contains-append_left, Contains-append_right, Contains-append_cases}
use Rattle.graph_base.specs.declared.Edge.{Edge}
use Rattle.graph_base.specs.Walk.{IsInRange, IsWalk, HasCycle, Reaches}
use Rattle.graph_base.proofs.Walks.{reaches_edge, reaches_from_cycle}
use Rattle.bit_rows.proofs.Marks.{contains_cons, contains_first, contains_later}
use Rattle.reach_rows.specs.Rows.{row_at, edge_of, pairs_from, pairs_of, HasPair, IsClosed}

pub from_map : {X Y : Type 0} (f : X → Y) (xs : List X) (y : Y) → Contains (map f xs) y → (x : X) × (Contains xs x × (f x ≡ y))
from_map f [] y (k, small, is) = absurd (omega arith)
from_map f (x ∷ xs) y member = elim (contains_cons (f x) (map f xs) y member) [
  | inl same ↦ (x, (contains_first x xs x refl, same))
  | inr later ↦ let at = from_map f xs y later in (at.0, (contains_later x xs at.0 at.1.0, at.1.1))
]

pub in_map : {X Y : Type 0} (f : X → Y) (xs : List X) (x : X) → Contains xs x → Contains (map f xs) (f x)
in_map f [] x (k, small, is) = absurd (omega arith)
in_map f (x ∷ xs) y member = elim (contains_cons x xs y member) [
  | inl same ↦ contains_first (f x) (map f xs) (f y) (ap f same)
  | inr later ↦ contains_later (f x) (map f xs) (f y) (in_map f xs y later)
]

pub in_pairs :
    (rows : List (List ℕ)) (n k m : ℕ) → HasPair rows m k → Contains (pairs_from n rows) (edge_of m (n + k))
in_pairs [] n k m (j, small, is) = absurd (omega arith)
in_pairs (row ∷ rows) n zero m member =
    let at : n ≡ n + zero = omega arith in
    subst (λ (b : ℕ). Contains (pairs_from n (row ∷ rows)) (edge_of m b)) at
    (Contains-append_left (map (λ a. edge_of a n) row) (pairs_from (suc n) rows) (edge_of m n) (in_map (λ a. edge_of a n) row m member))
in_pairs (row ∷ rows) n (suc k) m member =
    let at : suc n + k ≡ n + suc k = omega arith in
    subst (λ (b : ℕ). Contains (pairs_from n (row ∷ rows)) (edge_of m b)) at
    (Contains-append_right (map (λ a. edge_of a n) row) (pairs_from (suc n) rows) (edge_of m (suc n + k)) (in_pairs rows (suc n) k m member))

pub from_pairs :
    (rows : List (List ℕ)) (n : ℕ) (e : Edge) → Contains (pairs_from n rows) e →
    (k : ℕ) × ((e.after ≡ n + k) × HasPair rows e.before k)
from_pairs [] n e (k, small, is) = absurd (omega arith)
from_pairs (row ∷ rows) n e member = elim (Contains-append_cases (map (λ a. edge_of a n) row) (pairs_from (suc n) rows) e member) [
  | inl here ↦
      let at = from_map (λ a. edge_of a n) row e here in
      let start : n ≡ n + zero = omega arith in
      (zero, (ap (λ (f : Edge). f.after) (sym at.1.1) ∙ start, subst (λ (b : ℕ). Contains row b) (ap (λ (f : Edge). f.before) at.1.1) at.1.0))
  | inr later ↦
      let at = from_pairs rows (suc n) e later in
      let k : ℕ = at.0 in
      let next : suc n + k ≡ n + suc k = omega arith in
      (suc k, (at.1.0 ∙ next, at.1.1))
]

pub pair_from_member : (rows : List (List ℕ)) (a b : ℕ) → HasPair rows a b → Contains (pairs_of rows) (edge_of a b)
unfolding pairs_of
pair_from_member rows a b member =
    let at : 0 + b ≡ b = omega arith in
    subst (λ (n : ℕ). Contains (pairs_from 0 rows) (edge_of a n)) at (in_pairs rows 0 b a member)

pub member_from_pair : (rows : List (List ℕ)) (e : Edge) → Contains (pairs_of rows) e → HasPair rows e.before e.after
unfolding pairs_of
member_from_pair rows e member =
    let at = from_pairs rows 0 e member in
    let k : ℕ = at.0 in
    let start : 0 + k ≡ k = omega arith in
    subst (λ (n : ℕ). HasPair rows e.before n) (sym (at.1.0 ∙ start)) at.1.1

pub pairs_from-push : (rows : List (List ℕ)) (n : ℕ) (row : List ℕ) → row ≡ [] → pairs_from n (rows ++ row ∷ []) ≡ pairs_from n rows
pairs_from-push [] n row none = ap (λ (r : List ℕ). map (λ a. edge_of a n) r ++ []) none
pairs_from-push (first ∷ rows) n row none =
    ap (λ (ps : List Edge). map (λ a. edge_of a n) first ++ ps) (pairs_from-push rows (suc n) row none)

-- an empty row adds no pair
pub pairs_of-push : (rows : List (List ℕ)) (row : List ℕ) → row ≡ [] → pairs_of (rows ++ row ∷ []) ≡ pairs_of rows
unfolding pairs_of
pairs_of-push rows row none = pairs_from-push rows 0 row none

pub pairs_of-one : (row : List ℕ) → row ≡ [] → pairs_of (row ∷ []) ≡ []
unfolding pairs_of
pairs_of-one row none = pairs_from-push [] 0 row none

pub owner_below : (rows : List (List ℕ)) (a b : ℕ) → HasPair rows a b → b < length rows
owner_below rows a b member = elim (cases_lt b (length rows)) [
  | inl within ↦ within
  | inr past ↦
      let none = subst (λ (row : List ℕ). Contains row a) (get_or_past rows b [] past) member in
      let small = none.1 in
      absurd (omega arith)
]

pub row_push_same : (rows : List (List ℕ)) (row : List ℕ) (a : ℕ) → row ≡ [] → row_at (rows ++ row ∷ []) a ≡ row_at rows a
row_push_same [] row zero none = none
row_push_same [] row (suc a) none = refl
row_push_same (first ∷ rows) row zero none = refl
row_push_same (first ∷ rows) row (suc a) none = row_push_same rows row a none

-- ---- closed rows

pub member_along :
    (rows : List (List ℕ)) → IsClosed rows → (a m : ℕ) (walk : List Edge) (b : ℕ) → HasPair rows a m →
    IsWalk (pairs_of rows) m walk b → HasPair rows a b
member_along rows closed a m [] b so_far same = subst (λ (n : ℕ). HasPair rows a n) same so_far
member_along rows closed a m (e ∷ walk) b so_far (begins, member, rest) =
    let next : HasPair rows m e.after =
    subst (λ (n : ℕ). HasPair rows n e.after) begins (member_from_pair rows e member) in
    member_along rows closed a e.after walk b (closed.transitive a m e.after so_far next) rest

pub member_from_reaches : (rows : List (List ℕ)) → IsClosed rows → (a b : ℕ) → Reaches (pairs_of rows) a b → HasPair rows a b
member_from_reaches rows closed a b on =
    let is = on.is in
    member_along rows closed a on.first.after on.walk b
    (subst (λ (n : ℕ). HasPair rows n on.first.after) is.0 (member_from_pair rows on.first is.1)) is.2

pub reaches_from_member : (rows : List (List ℕ)) (a b : ℕ) → HasPair rows a b → Reaches (pairs_of rows) a b
reaches_from_member rows a b member = reaches_edge (pairs_of rows) (edge_of a b) (pair_from_member rows a b member)

pub pairs_acyclic : (rows : List (List ℕ)) → IsClosed rows → HasCycle (pairs_of rows) → ⊥
pairs_acyclic rows closed cycle =
    let at = reaches_from_cycle (pairs_of rows) cycle in
    closed.irreflexive at.0 (member_from_reaches rows closed at.0 at.0 at.1)

pub pairs_in_range : (rows : List (List ℕ)) → IsClosed rows → IsInRange (length rows) (pairs_of rows)
pairs_in_range rows closed k d within =
    let e : Edge = get_or (pairs_of rows) k d in
    let member : HasPair rows e.before e.after = member_from_pair rows e (Contains-get_or (pairs_of rows) k d within) in
    (closed.below e.before e.after member, owner_below rows e.before e.after member)
