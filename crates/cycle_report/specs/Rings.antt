-- Cycles along edges: how they are turned and shortened.
use Rattle.std.specs.Prelude.{◌≡◌, ◌<◌, ◌≤◌, ℕ, Some, List, Contains, length, slice_get}
use Rattle.graph_base.specs.declared.Edge.{Edge}
use Rattle.graph_base.specs.Walk.{IsWalk}

-- a walk of at least one edge that begins and ends at the base, the least of the numbers on it
pub record IsRing (edges ring : List Edge) (base : ℕ) : Type 0 where
  pub some : 0 < length ring
  pub walk : IsWalk edges base ring base
  pub least : (e : Edge) → Contains ring e → base ≤ e.before

-- so it is with some base
abbrev pub IsAnyRing : List Edge → List Edge → Type 0
IsAnyRing edges ring = (base : ℕ) × IsRing edges ring base

-- the edge at the place begins at the number
pub record BeginsAt (edges : List Edge) (place number : ℕ) : Type 0 where
  pub edge : Edge
  pub is : slice_get edges place ≡ Some edge
  pub number_is : number ≡ edge.before

-- the edge at the place begins at the least number of those before n
pub record IsLeastBelow (ring : List Edge) (place n : ℕ) : Type 0 where
  pub edge : Edge
  pub is : slice_get ring place ≡ Some edge
  pub least : (k : ℕ) (e : Edge) → k < n → slice_get ring k ≡ Some e → edge.before ≤ e.before

-- the edge at the place begins at the least number
pub record IsLeastAt (ring : List Edge) (place : ℕ) : Type 0 where
  pub edge : Edge
  pub is : slice_get ring place ≡ Some edge
  pub least : (e : Edge) → Contains ring e → edge.before ≤ e.before

-- the edges at both places begin at one number, and the first place is before the second
pub record IsRepeat (ring : List Edge) (first second : ℕ) : Type 0 where
  pub apart : first < second
  pub one : Edge
  pub other : Edge
  pub one_is : slice_get ring first ≡ Some one
  pub other_is : slice_get ring second ≡ Some other
  pub same : one.before ≡ other.before

-- no two edges begin at one number
abbrev pub IsOnce : List Edge → Type 0
IsOnce ring = (first second : ℕ) → ¬ IsRepeat ring first second
