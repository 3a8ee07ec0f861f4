-- What writing the log of a history to a file comes to.
use Rattle.std.specs.Prelude.{◌≡◌, ◌⊎◌, ℕ, List, Option, None, Some}
use Rattle.graph_base.specs.Order.{IsLower}
use Rattle.history_core.specs.Chronicle.{Chronicle}
use Rattle.history_core.specs.Relations.{Meets}
use Rattle.link_traits.specs.Host.{Hosted}
use Rattle.host_calls.specs.declared.writing.WriteFault.{WriteFault}
use Rattle.host_calls.specs.declared.writing.WriteFault.TheVariants as faults
use Rattle.host_calls.specs.Writing.{FileWritten, Unwritten}
use Rattle.host_calls.specs.Printing.{Printed}
use Rattle.history_log.specs.Log.{IsLog, newest}
use Rattle.log_file.specs.Text.{trace_of, text_of}

-- the first of all orders that meet the history, compared number by number
pub record IsFirstOrder (history : Chronicle) (order : List ℕ) : Type 0 where
  pub meets : Meets history.events order
  pub first : (other : List ℕ) → Meets history.events other → (order ≡ other) ⊎ IsLower order other

-- the file of the path holds the log of the history, with the first of the orders that meet it: a text that is of this history and order alone
pub record LogWritten (path : List ℕ) (history : Chronicle) (before after : Hosted) : Type 0 where
  pub order : List ℕ
  pub order_is : IsFirstOrder history order
  pub is_log : IsLog (newest history.initial) (trace_of history order) (text_of (trace_of history order))
  pub written : FileWritten path (text_of (trace_of history order)) before after

-- the file couldn't be made, or a part of this log stands in it
pub record LogCut (path : List ℕ) (history : Chronicle) (fault : WriteFault) (before after : Hosted) : Type 0 where
  pub order : List ℕ
  pub order_is : IsFirstOrder history order
  pub is_log : IsLog (newest history.initial) (trace_of history order) (text_of (trace_of history order))
  pub unwritten : Unwritten path (text_of (trace_of history order)) fault before after

-- what came of a log that wasn't written whole
abbrev pub LogUnwritten : List ℕ → Chronicle → WriteFault → Hosted → Hosted → Type 0
LogUnwritten path history faults.Memory before after = after ≡ before
LogUnwritten path history faults.Make before after = LogCut path history faults.Make before after
LogUnwritten path history faults.Write before after = LogCut path history faults.Write before after

-- What became of a log that was asked for, or wasn't: nothing is done where none was asked for; else the log was written whole, or not for this
-- fault.
abbrev pub Logs : Option (List ℕ) → Chronicle → Option WriteFault → Hosted → Hosted → Type 0
Logs None history fault before after = (fault ≡ None) × (after ≡ before)
Logs (Some path) history None before after = LogWritten path history before after
Logs (Some path) history (Some fault) before after = LogUnwritten path history fault before after

-- the status of a command after its log: the fault of the log stands before the status that it else has
abbrev pub status_after : Option WriteFault → ℕ → ℕ
status_after None code = code
status_after (Some faults.Make) code = 6
status_after (Some faults.Write) code = 4
status_after (Some faults.Memory) code = 5

-- The log of the history was written, where one was asked for, or not, and the line was printed. In which order isn't said, since what a host
-- tells has none between its files and its output. What is wrong with the log stands before what is wrong with the line.
pub record LogsAndPrints (log : Option (List ℕ)) (history : Chronicle) (line : List ℕ) (before : Hosted) (code : ℕ) (after : Hosted) : Type 0 where
  pub fault : Option WriteFault
  pub between : Hosted
  pub printed_code : ℕ
  pub logs : Logs log history fault before between
  pub printed : Printed line 0 between printed_code after
  pub code_is : code ≡ status_after fault printed_code
