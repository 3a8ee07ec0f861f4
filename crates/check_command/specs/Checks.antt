-- What the command does in a host.
use Rattle.std.specs.Prelude.{◌≡◌, ◌⊎◌, ℕ, List, None}
use Rattle.link_traits.specs.Host.{Hosted, open_file_called, call_failed, open_failed}
use Rattle.host_calls.specs.Printing.{Printed}
use Rattle.host_calls.specs.Reading.{FileRead, ReadFailed, OnlyLent}
use Rattle.check_command.specs.Verdict.{IsVerdict}

-- the greatest number of bytes of a log
abbrev pub most_bytes : ℕ
most_bytes = 268435456

-- the file was read, and the line of its bytes was printed
pub record Judged (path : List ℕ) (before : Hosted) (code : ℕ) (after : Hosted) : Type 0 where
  pub bytes : List ℕ
  pub between : Hosted
  pub read : FileRead path most_bytes bytes before between
  pub line : List ℕ
  pub whole : ℕ
  pub verdict : IsVerdict bytes line whole
  pub printed : Printed line whole between code after

-- `check PATH`: the file couldn't be opened, a read failed, memory ran out with nothing printed, or the line was printed
abbrev pub Checks : List ℕ → Hosted → ℕ → Hosted → Type 0
Checks path before code after =
    ((code ≡ 6) × (after ≡ call_failed (open_file_called path None) (open_failed before.faults) before))
    ⊎ (((code ≡ 3) × ReadFailed path before after)
    ⊎ (((code ≡ 5) × ((after ≡ before) ⊎ OnlyLent path before after))
    ⊎ Judged path before code after))
