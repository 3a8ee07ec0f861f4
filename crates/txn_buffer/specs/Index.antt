-- Where the cells of one hash stand. A place is given as one more, and 0 stands for none.
use Rattle.std.specs.Prelude.{◌≡◌, ◌≢◌, ◌≤◌, ◌<◌, ℕ, suc, Some, List, length, slice_get, slice_index, nat_eq, unwrap_or, fold}
use Rattle.std.specs.Hash.FoldHasher as folding
use Rattle.std.specs.HashMap.{HashMap, get}
use Rattle.std.specs.declared.hash.FoldHasher.{FoldHasher}
use Rattle.std.specs.declared.hash.BuildHasherDefault.{BuildHasherDefault}
use Rattle.cell_base.specs.declared.cell.Cell.{Cell}
use Rattle.cell_base.specs.Hashes.{hashed_cell}
use Rattle.cell_base.specs.declared.value.Value.{Value}

abbrev pub hash_of : Cell → ℕ
hash_of cell = folding.finish (fold folding.write folding.initial (hashed_cell cell))

abbrev pub Places : Type 0
Places = HashMap ℕ ℕ (BuildHasherDefault FoldHasher)

-- the last place of the hash
abbrev pub last_of : Places → ℕ → ℕ
last_of last hash = unwrap_or (get nat_eq last hash) 0

-- the hash has this last place, and each other hash has what it had
pub record GainsLast (old new : Places) (hash place : ℕ) : Type 0 where
  pub here : last_of new hash ≡ place
  pub others : (other : ℕ) → other ≢ hash → last_of new other ≡ last_of old other

-- of the cells before the place `to`, the last of the hash stands at `at`
pub record IsLast (writes : List (Cell × Value)) (hash to at : ℕ) : Type 0 where
  pub within : at ≤ to
  pub is : (k : ℕ) (e : Cell × Value) → at ≡ suc k → slice_get writes k ≡ Some e → hash_of e.0 ≡ hash
  pub none : (k : ℕ) (e : Cell × Value) → at ≤ k → k < to → slice_get writes k ≡ Some e → hash_of e.0 ≢ hash

-- the places are those of the cells
pub record IsIndexed (writes : List (Cell × Value)) (last : ℕ → ℕ) (before : List ℕ) : Type 0 where
  pub size : length before ≡ length writes
  pub last_is : (hash : ℕ) → IsLast writes hash (length writes) (last hash)
  pub before_is : (k : ℕ) (e : Cell × Value) → slice_get writes k ≡ Some e → IsLast writes (hash_of e.0) k (slice_index before k)
