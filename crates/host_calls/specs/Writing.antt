-- What writing a file of a host comes to.
use Rattle.std.specs.Prelude.{◌≡◌, ℕ, List, [], ◌∷◌, ◌++◌, None, Some, IfSome}
use Rattle.link_traits.specs.Faults.{Rose}
use Rattle.link_traits.specs.Traffic.{Both, Wrote, WrotePart, Sight}
use Rattle.link_traits.specs.Host.{Hosted, make_file_called, new_file_returned, call_failed, make_failed}
use Rattle.host_calls.specs.declared.writing.WriteFault.{WriteFault}
use Rattle.host_calls.specs.declared.writing.WriteFault.TheVariants as faults

-- the file of the path was made once, empty at first, and came back; nothing else changed
pub record FileMade (path : List ℕ) (before : Hosted) (given returned : Sight) (after : Hosted) : Type 0 where
  pub empty : IfSome given.traffic (λ told. told.written ≡ [])
  pub after_is : after ≡ record before {
    calls = before.calls ++ make_file_called path (Some given) ∷ [];
    back = before.back ++ new_file_returned returned ∷ [];
  }

-- all bytes were written to it
pub record FileWritten (path bytes : List ℕ) (before after : Hosted) : Type 0 where
  pub given : Sight
  pub returned : Sight
  pub made : FileMade path before given returned after
  pub whole : Both (Wrote bytes) given.traffic returned.traffic

-- a write failed, and a part of the bytes stands in it, from their front on
pub record WriteFailed (path bytes : List ℕ) (before after : Hosted) : Type 0 where
  pub given : Sight
  pub returned : Sight
  pub made : FileMade path before given returned after
  pub part : Both (WrotePart bytes) given.traffic returned.traffic
  pub rose : Rose given.write_faults returned.write_faults

-- what came of a file that wasn't written whole
abbrev pub Unwritten : List ℕ → List ℕ → WriteFault → Hosted → Hosted → Type 0
Unwritten path bytes faults.Make before after = after ≡ call_failed (make_file_called path None) (make_failed before.faults) before
Unwritten path bytes faults.Write before after = WriteFailed path bytes before after
Unwritten path bytes faults.Memory before after = after ≡ before
