-- What a check finds of the bytes of a file.
use Rattle.std.specs.Prelude.{◌≡◌, ◌⊎◌, ℕ, List, codes}
use Rattle.history_log.specs.declared.log_fault.LogFault.{LogFault}
use Rattle.history_log.specs.declared.trace.Trace.{Trace}
use Rattle.history_log.specs.declared.version.Version.{Version}
use Rattle.history_log.specs.Log.{IsLog}
use Rattle.history_log.specs.Faults.{HasFewBytes, HasFault}
use Rattle.history_check.specs.declared.breach.Breach.{Breach}
use Rattle.history_check.specs.Orders.{IsRightTrace, IsFirstBreach}
use Rattle.check_command.specs.Lines.{breach_words, fault_words, line_of}

-- the bytes are few, and the log of a history that has no breach
pub record IsRightLog (bytes : List ℕ) : Type 0 where
  pub few : HasFewBytes bytes
  pub version : Version
  pub trace : Trace
  pub log : IsLog version trace bytes
  pub right : IsRightTrace trace

-- the bytes are few, and the log of a history that has this breach first
pub record IsBreachedLog (bytes : List ℕ) (breach : Breach) : Type 0 where
  pub few : HasFewBytes bytes
  pub version : Version
  pub trace : Trace
  pub log : IsLog version trace bytes
  pub first : IsFirstBreach trace breach

-- the line of the bytes, and the status with which it is printed
abbrev pub IsVerdict : List ℕ → List ℕ → ℕ → Type 0
IsVerdict bytes line code =
    ((code ≡ 0) × (line ≡ line_of (codes "ok")) × IsRightLog bytes)
    ⊎ (((code ≡ 1) × ((breach : Breach) × (line ≡ line_of (breach_words breach)) × IsBreachedLog bytes breach))
    ⊎ ((code ≡ 1) × ((fault : LogFault) × (line ≡ line_of (fault_words fault)) × HasFault bytes fault)))
