-- What reading a file of a host comes to.
use Rattle.std.specs.Prelude.{◌≡◌, ◌≤◌, ◌<◌, ◌+◌, ◌⊎◌, ℕ, List, [], ◌∷◌, ◌++◌, length, Option, None, Some, IfSome}
use Rattle.link_traits.specs.Faults.{Rose}
use Rattle.link_traits.specs.Traffic.{Traffic, Both, Sight, untouched}
use Rattle.link_traits.specs.Host.{Hosted, open_file_called, file_returned, call_failed, open_failed, bytes_at}
use Rattle.host_calls.specs.declared.reading.FileFault.{FileFault}
use Rattle.host_calls.specs.declared.reading.FileFault.TheVariants as faults

-- these bytes were read so far
pub record ReadSoFar (bytes : List ℕ) (old new : Traffic) : Type 0 where
  pub left : old.left ≡ bytes ++ new.left
  pub read : new.read ≡ old.read ++ bytes

-- these bytes were read, and they are all that were left, or more than so many
pub record ReadWhole (most : ℕ) (bytes : List ℕ) (old new : Traffic) : Type 0 where
  pub so_far : ReadSoFar bytes old new
  pub whole : (new.left ≡ []) ⊎ (most < length bytes)

-- so many bytes were read, and stand after the others; none exactly at the end
pub record AddsPiece (n : ℕ) (old new : List ℕ) (before after : Option Traffic) : Type 0 where
  pub piece : List ℕ
  pub size : length piece ≡ n
  pub bytes : new ≡ old ++ piece
  pub so_far : Both (ReadSoFar piece) before after
  pub end : n ≡ 0 → IfSome after (λ told. told.left ≡ [])

-- memory ran out, or a read failed, which was counted
abbrev pub IsReadFault : FileFault → ℕ → ℕ → Type 0
IsReadFault faults.Open before after = ⊥
IsReadFault faults.Read before after = Rose before after
IsReadFault faults.Memory before after = Unit {0}

-- The file of the path was opened once, and came back: it was handed out with the bytes that the host tells of the path, where it tells them.
-- Nothing else changed.
pub record FileLent (path : List ℕ) (before : Hosted) (given returned : Sight) (after : Hosted) : Type 0 where
  pub told : IfSome (bytes_at before.files path) (λ bytes. given.traffic ≡ Some (untouched bytes))
  pub after_is : after ≡ record before {
    calls = before.calls ++ open_file_called path (Some given) ∷ [];
    back = before.back ++ file_returned returned ∷ [];
  }

-- the bytes are the file's of that path, to its end or to one more than so many of them
pub record FileRead (path : List ℕ) (most : ℕ) (bytes : List ℕ) (before after : Hosted) : Type 0 where
  pub given : Sight
  pub returned : Sight
  pub lent : FileLent path before given returned after
  pub bytes_are : Both (ReadWhole most bytes) given.traffic returned.traffic
  pub few : length bytes ≤ most + 1

-- the file was opened, and one of its reads failed
pub record ReadFailed (path : List ℕ) (before after : Hosted) : Type 0 where
  pub given : Sight
  pub returned : Sight
  pub lent : FileLent path before given returned after
  pub rose : Rose given.read_faults returned.read_faults

-- the file was opened, and came back
pub record OnlyLent (path : List ℕ) (before after : Hosted) : Type 0 where
  pub given : Sight
  pub returned : Sight
  pub lent : FileLent path before given returned after

-- what came of a file that wasn't read whole
abbrev pub Unread : List ℕ → FileFault → Hosted → Hosted → Type 0
Unread path faults.Open before after = after ≡ call_failed (open_file_called path None) (open_failed before.faults) before
Unread path faults.Read before after = ReadFailed path before after
Unread path faults.Memory before after = (after ≡ before) ⊎ OnlyLent path before after
