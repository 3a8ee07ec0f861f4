-- Notes of one writer.
use Rattle.std.specs.Prelude.{◌≡◌, ℕ, zero, suc, ◌==◌, List, [], ◌∷◌, ◌++◌, filter}
use Rattle.turn_lock.specs.Passes.{PassValue}
use Rattle.turn_notes.specs.declared.notes.Note.{Note}

abbrev pub note : ℕ → ℕ → Note
note by value = record { by = by; value = value }

-- the notes of `by` with the values from 0 on, n of them
abbrev pub numbered : ℕ → ℕ → List Note
numbered by zero = []
numbered by (suc n) = numbered by n ++ note by n ∷ []

abbrev pub notes_by : ℕ → List Note → List Note
notes_by by notes = filter (λ n. n.by == by) notes

-- a turn changes no more of a pass than what it has seen and its own entries
abbrev pub SameButEntries : {E : Type 0} → PassValue E → PassValue E → Type 0
SameButEntries before after = (after.lock ≡ before.lock) × (after.kept ≡ before.kept) × (after.parts ≡ before.parts)
