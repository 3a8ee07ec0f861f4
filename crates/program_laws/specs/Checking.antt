-- What the command `check` answers where no fault is counted.
use Rattle.std.specs.Prelude.{◌≡◌, ◌⊎◌, ◌↔◌, ℕ, Bool, List, [], ◌∷◌, ◌++◌, Some, IfSome, codes}
use Rattle.history_core.specs.Chronicle.{Chronicle, IsLegalChronicle}
use Rattle.history_core.specs.Relations.{Meets}
use Rattle.history_core.specs.Legal.{IsLegal}
use Rattle.history_log.specs.declared.trace.Trace.{Trace}
use Rattle.history_log.specs.declared.version.Version.{Version}
use Rattle.history_log.specs.Log.{IsLog}
use Rattle.history_log.specs.Faults.{HasFewBytes}
use Rattle.log_file.specs.Text.{trace_of, text_of}
use Rattle.log_file.specs.Logging.{LogWritten}
use Rattle.link_traits.specs.Faults.{Rose}
use Rattle.link_traits.specs.Traffic.{Sight, Both, Wrote, untouched}
use Rattle.link_traits.specs.Host.{Hosted, open_file_called, file_returned, bytes_at}
use Rattle.doors.specs.Network.{Networked}
use Rattle.check_command.specs.Lines.{line_of}
use Rattle.check_command.specs.Verdict.{IsVerdict, IsRightLog}
use Rattle.check_command.specs.Checks.{Checks}
use Rattle.command_line.specs.Commands.{IsCheck}
use Rattle.monkey_server.specs.Program.{Does}

-- each text has one verdict
abbrev pub OneVerdict : Type 0
OneVerdict =
    (bytes line other : List ℕ) (code other_code : ℕ) → IsVerdict bytes line code → IsVerdict bytes other other_code
    → (line ≡ other) × (code ≡ other_code)

-- its status is 0 exactly where the text, of at most 268,435,456 bytes, is the log of a history that has no breach
abbrev pub ZeroIsRight : Type 0
ZeroIsRight = (bytes line : List ℕ) (code : ℕ) → IsVerdict bytes line code → (code ≡ 0) ↔ IsRightLog bytes

-- at most 268,435,456 bytes, the log of a legal history with an order that meets it
pub record IsLegalLog (bytes : List ℕ) : Type 0 where
  pub few : HasFewBytes bytes
  pub version : Version
  pub trace : Trace
  pub log : IsLog version trace bytes
  pub legal : IsLegal trace.initial trace.events
  pub meets : Meets trace.events trace.order

-- the line of a right log
abbrev pub ok_line : List ℕ
ok_line = line_of (codes "ok")

-- the verdict on such a log is `ok`, with status 0
abbrev pub LegalLogsAreRight : Type 0
LegalLogsAreRight = (bytes line : List ℕ) (code : ℕ) → IsLegalLog bytes → IsVerdict bytes line code → (line ≡ ok_line) × (code ≡ 0)

-- what was written whole as the log of a legal history is such a log, where it has no more bytes
abbrev pub WrittenLogsAreLegal : Type 0
WrittenLogsAreLegal =
    (path : List ℕ) (history : Chronicle) (before after : Hosted) → IsLegalChronicle history → (log : LogWritten path history before after)
    → HasFewBytes (text_of (trace_of history log.order)) → IsLegalLog (text_of (trace_of history log.order))

-- this line stands whole after what the output of the host had been written before
pub record HasPrinted (line : List ℕ) (before after : Hosted) : Type 0 where
  pub old_out : Sight
  pub new_out : Sight
  pub old_is : before.out ≡ Some old_out
  pub new_is : after.out ≡ Some new_out
  pub wrote : Both (Wrote line) old_out.traffic new_out.traffic

-- no fault of a write was counted by the output
abbrev pub PrintsUndisturbed : Hosted → Hosted → Type 0
PrintsUndisturbed before after =
    (old new : Sight) → before.out ≡ Some old → after.out ≡ Some new → ¬ (Rose old.write_faults new.write_faults)

-- The host didn't count that it opened no file; the file that it opened, if it did, counted no fault; and the output counted none.
pub record ChecksUndisturbed (path : List ℕ) (before after : Hosted) : Type 0 where
  pub opens : ¬ (Rose before.faults.open_file after.faults.open_file)
  pub reads : (given back : Sight) → after.calls ≡ before.calls ++ open_file_called path (Some given) ∷ []
      → after.back ≡ before.back ++ file_returned back ∷ [] → ¬ (Rose given.read_faults back.read_faults)
  pub prints : PrintsUndisturbed before after

-- The file of the path was opened, with the bytes that the host tells of it, and came back. The line of what was read was printed whole; it is
-- the line of all the bytes that the file told, and the status is that of this line.
pub record JudgesWhole (path : List ℕ) (before : Hosted) (code : ℕ) (after : Hosted) : Type 0 where
  pub given : Sight
  pub returned : Sight
  pub called : after.calls ≡ before.calls ++ open_file_called path (Some given) ∷ []
  pub back : after.back ≡ before.back ++ file_returned returned ∷ []
  pub told : IfSome (bytes_at before.files path) (λ bytes. given.traffic ≡ Some (untouched bytes))
  pub bytes : List ℕ
  pub line : List ℕ
  pub verdict : IsVerdict bytes line code
  pub whole : IfSome given.traffic (λ told. IsVerdict told.left line code)
  pub printed : HasPrinted line before after

-- `check PATH` where no fault is counted: memory ran out, or the whole file was judged
abbrev pub ChecksAreComplete : Type 0
ChecksAreComplete =
    (path : List ℕ) (before : Hosted) (code : ℕ) (after : Hosted) → Checks path before code after → ChecksUndisturbed path before after
    → (code ≡ 5) ⊎ JudgesWhole path before code after

-- so does the program with these words
abbrev pub CheckRunsAreComplete : Type 0
CheckRunsAreComplete =
    (args : List (List ℕ)) (path : List ℕ) (wide : Bool) (network left : Networked) (before : Hosted) (code : ℕ) (after : Hosted)
    → IsCheck args path wide → Does args network before code left after → ChecksUndisturbed path before after
    → (code ≡ 5) ⊎ JudgesWhole path before code after

-- Of a file whose bytes the host tells: the status is 5, or it is that of the verdict on these bytes, whose line was printed whole.
abbrev pub CheckRunsAreExact : Type 0
CheckRunsAreExact =
    (args : List (List ℕ)) (path : List ℕ) (wide : Bool) (network left : Networked) (before : Hosted) (code : ℕ) (after : Hosted) (bytes line : List ℕ)
    (status : ℕ) → IsCheck args path wide → Does args network before code left after → ChecksUndisturbed path before after
    → bytes_at before.files path ≡ Some bytes → IsVerdict bytes line status → (code ≡ 5) ⊎ ((code ≡ status) × HasPrinted line before after)

-- Of a file that holds the log of a legal history: the status is 5, or it is 0, and `ok` was printed whole.
abbrev pub LegalLogsCheck : Type 0
LegalLogsCheck =
    (args : List (List ℕ)) (path : List ℕ) (wide : Bool) (network left : Networked) (before : Hosted) (code : ℕ) (after : Hosted) (bytes : List ℕ)
    → IsCheck args path wide → Does args network before code left after → ChecksUndisturbed path before after
    → bytes_at before.files path ≡ Some bytes → IsLegalLog bytes → (code ≡ 5) ⊎ ((code ≡ 0) × HasPrinted ok_line before after)
