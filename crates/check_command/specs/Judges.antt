-- What the command `judge PATH` does in a host.
use Rattle.std.specs.Prelude.{◌≡◌, ◌⊎◌, ℕ, List, None}
use Rattle.link_traits.specs.Host.{Hosted, open_file_called, call_failed, open_failed}
use Rattle.host_calls.specs.Printing.{Printed}
use Rattle.host_calls.specs.Reading.{FileRead, ReadFailed, OnlyLent}
use Rattle.check_command.specs.Checks.{most_bytes}
use Rattle.check_command.specs.JudgeVerdict.{IsJudgeVerdict}

-- the file was read, and the lines of its bytes were printed
pub record JudgedFile (path : List ℕ) (before : Hosted) (code : ℕ) (after : Hosted) : Type 0 where
  pub bytes : List ℕ
  pub between : Hosted
  pub read : FileRead path most_bytes bytes before between
  pub lines : List ℕ
  pub whole : ℕ
  pub verdict : IsJudgeVerdict bytes lines whole
  pub printed : Printed lines whole between code after

-- `judge PATH`: the file couldn't be opened, a read failed, memory ran out with nothing printed, or the lines were printed
abbrev pub Judges : List ℕ → Hosted → ℕ → Hosted → Type 0
Judges path before code after =
    ((code ≡ 6) × (after ≡ call_failed (open_file_called path None) (open_failed before.faults) before))
    ⊎ (((code ≡ 3) × ReadFailed path before after)
    ⊎ (((code ≡ 5) × ((after ≡ before) ⊎ OnlyLent path before after))
    ⊎ JudgedFile path before code after))
