-- The user that a startup message names.
use Rattle.std.specs.Prelude.{◌≡◌, ◌≢◌, ℕ, List, [], ◌∷◌, ◌++◌, codes, Contains}

-- the name of the one pair of a startup that is looked at
abbrev pub user : List ℕ
user = codes "user"

-- the last pair of that name has this value
pub record NamesUser (pairs : List ((List ℕ) × (List ℕ))) (value : List ℕ) : Type 0 where
  pub before : List ((List ℕ) × (List ℕ))
  pub after : List ((List ℕ) × (List ℕ))
  pub whole : pairs ≡ before ++ (user, value) ∷ after
  pub last : (other : List ℕ) → ¬ (Contains after (user, other))

-- the last user that the pairs name isn't empty
abbrev pub HasUser : List ((List ℕ) × (List ℕ)) → Type 0
HasUser pairs = (value : List ℕ) × (value ≢ []) × NamesUser pairs value
