-- Words of many lines one after another: a segment of them, and what a change of one does.
use Rattle.std.specs.Prelude.{◌≡◌, ◌<◌, ◌≤◌, ◌+◌, ◌*◌, ◌⊎◌, ℕ, List, [], length, slice_index, take, drop}
use Rattle.bit_rows.specs.Members.{IsUnion, members}

-- so many words from a place on
abbrev pub segment : List ℕ → ℕ → ℕ → List ℕ
segment pool place room = take room (drop place pool)

-- the words of one segment alone have changed
pub record ChangesSegment (place room : ℕ) (old new : List ℕ) : Type 0 where
  pub size : length new ≡ length old
  pub others : (k : ℕ) → (k < place) ⊎ (place + room ≤ k) → slice_index new k ≡ slice_index old k

-- one segment has gained members, and all else stays
pub record JoinsSegment (place room : ℕ) (gained old new : List ℕ) : Type 0 where
  pub changed : ChangesSegment place room old new
  pub joined : IsUnion (members (segment old place room)) gained (members (segment new place room))

-- one segment has lost its members, and all else stays
pub record ClearsSegment (place room : ℕ) (old new : List ℕ) : Type 0 where
  pub changed : ChangesSegment place room old new
  pub none : members (segment new place room) ≡ []

-- each segment has the same members with more room
pub record AreCopied (segments room more : ℕ) (old new : List ℕ) : Type 0 where
  pub size : length new ≡ segments * more
  pub members : (s : ℕ) → s < segments → members (segment new (s * more) more) ≡ members (segment old (s * room) room)
