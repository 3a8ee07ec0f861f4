-- What the notes of the sessions say by themselves.
use Rattle.std.specs.Prelude.{◌≡◌, ◌+◌, ℕ, Some, None, IsTrue, List, slice_get}
use Rattle.history_check.specs.declared.session_note.SessionNote.{SessionNote}

-- session s has its note at place s - 1
abbrev pub IsNotedAt : List SessionNote → ℕ → SessionNote → Type 0
IsNotedAt notes session note = (place : ℕ) × (place + 1 ≡ session) × (slice_get notes place ≡ Some note)

-- the session is open
abbrev pub IsOpenIn : List SessionNote → ℕ → Type 0
IsOpenIn notes session = (note : SessionNote) × IsNotedAt notes session note × IsTrue note.is_open

-- the session is open, and nothing is pending in it
abbrev pub IsIdleIn : List SessionNote → ℕ → Type 0
IsIdleIn notes session = (note : SessionNote) × IsNotedAt notes session note × IsTrue note.is_open × (note.pending ≡ None)

-- the transaction is pending in the session
abbrev pub IsPendingIn : List SessionNote → ℕ → ℕ → Type 0
IsPendingIn notes session txn = (note : SessionNote) × IsNotedAt notes session note × (note.pending ≡ Some txn)
