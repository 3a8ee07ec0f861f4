-- What a judge finds of the bytes of a file.
use Rattle.std.specs.Prelude.{◌≡◌, ◌⊎◌, ℕ, List}
use Rattle.history_log.specs.declared.log_fault.LogFault.{LogFault}
use Rattle.history_log.specs.declared.trace.Trace.{Trace}
use Rattle.history_log.specs.declared.version.Version.{Version}
use Rattle.history_log.specs.Log.{IsLog}
use Rattle.history_log.specs.Faults.{HasFewBytes, HasFault}
use Rattle.history_check.specs.declared.breach.Breach.{Breach}
use Rattle.history_check.specs.Breaches.{AreRight, IsFirstEventBreach}
use Rattle.cycle_report.specs.declared.judgement.Judgement.{Judgement}
use Rattle.cycle_report.specs.declared.judgement.Judgement.TheVariants.{Top, Upto, Nothing}
use Rattle.cycle_report.specs.Judged.{IsJudged}
use Rattle.check_command.specs.Lines.{breach_words, fault_words, line_of}
use Rattle.check_command.specs.JudgeLines.{judgement_lines}

-- the bytes are few, and the log of a history of right events, of which this is judged
pub record IsJudgedHistory (bytes : List ℕ) (judgement : Judgement) : Type 0 where
  pub few : HasFewBytes bytes
  pub version : Version
  pub trace : Trace
  pub log : IsLog version trace bytes
  pub right : AreRight trace.initial trace.events
  pub judged : IsJudged trace.events judgement

-- the bytes are few, and the log of events with this breach first
pub record IsBrokenHistory (bytes : List ℕ) (breach : Breach) : Type 0 where
  pub few : HasFewBytes bytes
  pub version : Version
  pub trace : Trace
  pub log : IsLog version trace bytes
  pub first : IsFirstEventBreach trace.initial trace.events breach

-- the status with which it is printed
abbrev pub judgement_code : Judgement → ℕ
judgement_code (Top order) = 0
judgement_code (Upto level order cycle) = 0
judgement_code (Nothing cycle) = 1

-- the lines of the bytes, and the status with which they are printed
abbrev pub IsJudgeVerdict : List ℕ → List ℕ → ℕ → Type 0
IsJudgeVerdict bytes lines code =
    ((judgement : Judgement) × (code ≡ judgement_code judgement) × (lines ≡ judgement_lines judgement) × IsJudgedHistory bytes judgement)
    ⊎ (((code ≡ 1) × ((breach : Breach) × (lines ≡ line_of (breach_words breach)) × IsBrokenHistory bytes breach))
    ⊎ ((code ≡ 1) × ((fault : LogFault) × (lines ≡ line_of (fault_words fault)) × HasFault bytes fault)))
