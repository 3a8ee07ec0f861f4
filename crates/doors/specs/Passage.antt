-- What a door tells: the links that came in by it, and those that were given back.
use Rattle.std.specs.Prelude.{◌≡◌, ◌+◌, ℕ, List, [], ◌∷◌, ◌++◌, Option, None, Some}
use Rattle.link_traits.specs.Faults.{counted}
use Rattle.link_traits.specs.Traffic.{Sight}

pub record Passage : Type 0 where
  -- how many links came in
  pub accepted : ℕ
  -- the links that were given back, in order, each as it came back
  pub back : List Sight
  -- the links that are still to come, where the door tells them beforehand
  pub to_come : Option (List Sight)
  -- how often accepting failed
  pub faults : ℕ

-- the link is the first of those that were to come, where these are told
abbrev pub IsNextOf : Sight → Option (List Sight) → Option (List Sight) → Type 0
IsNextOf link None None = Unit {0}
IsNextOf link (Some before) (Some after) = before ≡ link ∷ after
IsNextOf link None (Some after) = ⊥
IsNextOf link (Some before) None = ⊥

-- a link came in
pub record CameIn (link : Sight) (old new : Passage) : Type 0 where
  pub accepted : new.accepted ≡ old.accepted + 1
  pub back : new.back ≡ old.back
  pub to_come : IsNextOf link old.to_come new.to_come
  pub faults : new.faults ≡ old.faults

-- a link was given back
abbrev pub given_back : Sight → Passage → Passage
given_back link passage = record passage { back = passage.back ++ link ∷ [] }

-- accepting failed once more
abbrev pub accept_failed : Passage → Passage
accept_failed passage = record passage { faults = counted passage.faults }

-- no link came in yet, and accepting never failed
pub record IsUnused (passage : Passage) : Type 0 where
  pub accepted : passage.accepted ≡ 0
  pub back : passage.back ≡ []
  pub faults : passage.faults ≡ 0
