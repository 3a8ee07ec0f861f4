-- Where the numbers below a size stand in an order.
use Rattle.std.specs.Prelude.{◌≡◌, ◌<◌, ℕ, Option, Some, None, List, All, length, slice_get, slice_index}
use Rattle.graph_base.specs.Order.{place_of}
use Rattle.order_test.specs.declared.places.Places.{Places}
use Rattle.order_test.specs.Unkept.{HoldsAll}

abbrev pub AreBelow : ℕ → List ℕ → Type 0
AreBelow size order = All (λ n. n < size) order

-- each number's place stands at the number
pub record ArePlaces (size : ℕ) (order : List ℕ) (places : List ℕ) : Type 0 where
  pub count : length places ≡ size
  pub each : (n : ℕ) → n < size → slice_index places n ≡ place_of order n

-- both numbers have places, and the first one's is before the second one's
pub record StandsAt (places : List ℕ) (first second : ℕ) : Type 0 where
  pub first_in : first < length places
  pub second_in : second < length places
  pub before : slice_index places first < slice_index places second

-- each number stands where it stands first
abbrev pub StandOnce : List ℕ → Type 0
StandOnce order = (k n : ℕ) → slice_get order k ≡ Some n → place_of order n ≡ k

-- the places, where the order holds each number below the size once, and 0 first
abbrev pub IsPlaced : ℕ → List ℕ → Option Places → Type 0
IsPlaced size order None = ¬ HoldsAll size order
IsPlaced size order (Some places) = HoldsAll size order × ArePlaces size order places.at.items
