-- What `check` finds of a log that was cut.
use Rattle.std.specs.Prelude.{◌≡◌, ◌⊎◌, ◌↔◌, ◌<◌, ℕ, Bool, List, ◌∷◌, ◌++◌, length, Some, IfSome, codes}
use Rattle.history_core.specs.Chronicle.{Chronicle}
use Rattle.history_log.specs.declared.log_fault.LogFault.TheVariants as faults
use Rattle.history_log.specs.declared.trace.Trace.{Trace}
use Rattle.history_log.specs.declared.version.Version.{Version}
use Rattle.history_log.specs.Log.{IsLog}
use Rattle.history_log.specs.Faults.{HasFewBytes, HasFault}
use Rattle.host_calls.specs.declared.writing.WriteFault.TheVariants as writes
use Rattle.log_file.specs.Text.{trace_of, text_of}
use Rattle.log_file.specs.Logging.{LogCut}
use Rattle.link_traits.specs.Host.{Hosted, bytes_at}
use Rattle.doors.specs.Network.{Networked}
use Rattle.check_command.specs.Lines.{line_of}
use Rattle.check_command.specs.Verdict.{IsVerdict}
use Rattle.command_line.specs.Commands.{IsCheck}
use Rattle.monkey_server.specs.Program.{Does}
use Rattle.program_laws.specs.Checking.{HasPrinted, ChecksUndisturbed}

-- the bytes are the beginning of a log, in any version, and lack one byte of it at least
pub record IsCutLog (bytes : List ℕ) : Type 0 where
  pub version : Version
  pub trace : Trace
  pub byte : ℕ
  pub rest : List ℕ
  pub log : IsLog version trace (bytes ++ byte ∷ rest)

-- such a text is the log of no history
abbrev pub CutLogsAreNoLogs : Type 0
CutLogsAreNoLogs = (bytes : List ℕ) (version : Version) (trace : Trace) → IsCutLog bytes → IsLog version trace bytes → ⊥

-- and has the fault `Cut`, where it has at most 268,435,456 bytes
abbrev pub CutLogsAreCut : Type 0
CutLogsAreCut = (bytes : List ℕ) → IsCutLog bytes → HasFewBytes bytes → HasFault bytes faults.Cut

-- the line of a text that is cut, and of one that is too long
abbrev pub cut_line : List ℕ
cut_line = line_of (codes "log fault: cut")

abbrev pub long_line : List ℕ
long_line = line_of (codes "log fault: too long")

-- the line says that the text is cut, or too long where it has more than 268,435,456 bytes
abbrev pub IsCutLine : List ℕ → List ℕ → Type 0
IsCutLine bytes line = (HasFewBytes bytes × (line ≡ cut_line)) ⊎ ((268435456 < length bytes) × (line ≡ long_line))

-- the verdict on such a text is this line with status 1, and no other
abbrev pub CutLogsHaveFaults : Type 0
CutLogsHaveFaults = (bytes line : List ℕ) (code : ℕ) → IsCutLog bytes → IsVerdict bytes line code ↔ (IsCutLine bytes line × (code ≡ 1))

-- what a failed write of the log of a history left in the file is the whole log or such a text, where the file tells it
abbrev pub FailedWritesLeaveCutLogs : Type 0
FailedWritesLeaveCutLogs =
    (path : List ℕ) (history : Chronicle) (before after : Hosted) → (log : LogCut path history writes.Write before after)
    → IfSome log.unwritten.returned.traffic (λ told. (told.written ≡ text_of (trace_of history log.order)) ⊎ IsCutLog told.written)

-- Of a file that holds such a text: the status is 5, or it is 1, and the text's line was printed whole.
abbrev pub CutLogsCheck : Type 0
CutLogsCheck =
    (args : List (List ℕ)) (path : List ℕ) (wide : Bool) (network left : Networked) (before : Hosted) (code : ℕ) (after : Hosted) (bytes : List ℕ)
    → IsCheck args path wide → Does args network before code left after → ChecksUndisturbed path before after
    → bytes_at before.files path ≡ Some bytes → IsCutLog bytes
    → (code ≡ 5) ⊎ ((code ≡ 1) × ((line : List ℕ) × IsCutLine bytes line × HasPrinted line before after))
