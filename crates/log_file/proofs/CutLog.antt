-- A log that wasn't written whole.
use Rattle.std.proofs.Common.{◌≡◌, ℕ, List, Result, Ok, Err, IfErr, subst}
use Rattle.history_core.specs.Chronicle.{Chronicle}
use Rattle.link_traits.specs.Host.{Hosted}
use Rattle.host_calls.specs.declared.writing.WriteFault.{WriteFault}
use Rattle.host_calls.specs.declared.writing.WriteFault.TheVariants as faults
use Rattle.host_calls.specs.Writing.{Unwritten}
use Rattle.history_log.specs.Log.{IsLog, newest}
use Rattle.log_file.specs.Logging.{IsFirstOrder, LogUnwritten}
use Rattle.log_file.specs.Text.{trace_of, text_of}

of_fault : (path : List ℕ) (history : Chronicle) (order bytes : List ℕ) (fault : WriteFault) (before after : Hosted) → IsFirstOrder history order →
    IsLog (newest history.initial) (trace_of history order) (text_of (trace_of history order)) → bytes ≡ text_of (trace_of history order) → Unwritten path bytes fault before after → LogUnwritten path history fault before after
of_fault path history order bytes faults.Memory before after first is_log same unwritten = unwritten
of_fault path history order bytes faults.Make before after first is_log same unwritten =
    record { order = order; order_is = first; is_log = is_log; unwritten = subst (λ (text : List ℕ). Unwritten path text faults.Make before after) same unwritten }
of_fault path history order bytes faults.Write before after first is_log same unwritten =
    record { order = order; order_is = first; is_log = is_log; unwritten = subst (λ (text : List ℕ). Unwritten path text faults.Write before after) same unwritten }

pub cut_log : {X : Type 0} (path : List ℕ) (history : Chronicle) (order bytes : List ℕ) (result : Result X WriteFault) (before after : Hosted) →
    IsFirstOrder history order → IsLog (newest history.initial) (trace_of history order) (text_of (trace_of history order)) → bytes ≡ text_of (trace_of history order) → IfErr result (λ fault. Unwritten path bytes fault before after) →
    IfErr result (λ fault. LogUnwritten path history fault before after)
cut_log path history order bytes (Ok x) before after first is_log same unwritten = tt
cut_log path history order bytes (Err fault) before after first is_log same unwritten = of_fault path history order bytes fault before after first is_log same unwritten
