-- What is wrong with bytes that aren't the text of a history: read line by line, where it stops to be the beginning of one.
use Rattle.std.specs.Prelude.{◌≡◌, ◌≤◌, ◌<◌, ◌+◌, ℕ, List, [], ◌∷◌, ◌++◌, length}
use Rattle.history_log.specs.declared.log_fault.LogFault.{LogFault}
use Rattle.history_log.specs.declared.log_fault.LogFault.TheVariants as faults
use Rattle.history_log.specs.declared.trace.Trace.{Trace}
use Rattle.history_log.specs.declared.version.Version.{Version}
use Rattle.history_log.specs.Cut.{cut_at}
use Rattle.history_log.specs.Spelling.{lines}
use Rattle.history_log.specs.Log.{CanSay}

-- the lines begin the text of some history
pub record CanGoOn (begun : List (List ℕ)) : Type 0 where
  pub version : Version
  pub trace : Trace
  pub more : List (List ℕ)
  pub says : CanSay version trace
  pub goes : lines version trace ≡ begun ++ more

-- the parts between line feeds are the whole lines and what follows the last line feed
abbrev pub IsCutInto : List (List ℕ) → List (List ℕ) → List ℕ → Type 0
IsCutInto parts whole rest = parts ≡ whole ++ rest ∷ []

-- the lines before this one begin the text of some history, and with this one they don't
pub record IsBadLine (parts : List (List ℕ)) (number : ℕ) : Type 0 where
  pub before : List (List ℕ)
  pub text : List ℕ
  pub more : List (List ℕ)
  pub rest : List ℕ
  pub cut : IsCutInto parts (before ++ (text ∷ more)) rest
  pub place : length before + 1 ≡ number
  pub begins : CanGoOn before
  pub stops : CanGoOn (before ++ text ∷ []) → ⊥

-- all whole lines begin the text of some history, and the parts aren't the lines of one with nothing after them
pub record IsCutShort (parts : List (List ℕ)) : Type 0 where
  pub whole : List (List ℕ)
  pub rest : List ℕ
  pub cut : IsCutInto parts whole rest
  pub begins : CanGoOn whole
  pub no_log : (v : Version) (t : Trace) → CanSay v t → IsCutInto parts (lines v t) [] → ⊥

abbrev pub HasFewBytes : List ℕ → Type 0
HasFewBytes bytes = length bytes ≤ 268435456

-- the same faults of the parts, but for the length and the head
abbrev pub HasLineFault : List (List ℕ) → LogFault → Type 0
HasLineFault parts faults.TooLong = ⊥
HasLineFault parts faults.Version = ⊥
HasLineFault parts (faults.Line n) = (2 ≤ n) × IsBadLine parts n
HasLineFault parts faults.Cut = IsCutShort parts
HasLineFault parts faults.Memory = ⊥

abbrev pub HasFault : List ℕ → LogFault → Type 0
HasFault bytes faults.TooLong = 268435456 < length bytes
HasFault bytes faults.Version = HasFewBytes bytes × IsBadLine (cut_at 10 bytes) 1
HasFault bytes (faults.Line n) = HasFewBytes bytes × (2 ≤ n) × IsBadLine (cut_at 10 bytes) n
HasFault bytes faults.Cut = HasFewBytes bytes × IsCutShort (cut_at 10 bytes)
HasFault bytes faults.Memory = ⊥
