-- What `serve` answers where no fault is counted.
use Rattle.std.proofs.Common.{◌≡◌, ◌⊎◌, inl, inr, ℕ, List, Option, Some, None, refl, sym, ◌∙◌, ap, subst}
use Rattle.std.proofs.lemmas.Option.{none-some}
use Rattle.cell_base.specs.declared.level.Level.{Level}
use Rattle.link_traits.specs.Faults.{counted}
use Rattle.link_traits.specs.Host.{open_file_called, make_file_called, file_returned, new_file_returned, Hosted}
use Rattle.link_traits.specs.declared.faults.HostFaults.{HostFaults}
use Rattle.link_traits.specs.declared.host.HostFault.{HostFault}
use Rattle.link_traits.specs.declared.host.HostFault.TheVariants as lacks
use Rattle.history_core.specs.Chronicle.{Chronicle}
use Rattle.host_calls.specs.Printing.{Printed}
use Rattle.host_calls.specs.Reading.{FileRead}
use Rattle.host_calls.specs.declared.reading.FileFault.TheVariants as files
use Rattle.host_calls.specs.declared.writing.WriteFault.{WriteFault}
use Rattle.host_calls.specs.declared.writing.WriteFault.TheVariants as writes
use Rattle.log_file.specs.Logging.{Logs, status_after}
use Rattle.doors.specs.Network.{Networked}
use Rattle.command_line.specs.declared.reading.CommandLine.{CommandLine}
use Rattle.command_line.specs.declared.reading.CommandLine.TheVariants as lines
use Rattle.command_line.specs.declared.serve.ServeOptions.{ServeOptions}
use Rattle.command_line.proofs.OneCommand.{one_command}
use Rattle.monkey_server.specs.Program.{Obeys}
use Rattle.setup_client.specs.Client.{most_text}
use Rattle.setup_session.specs.declared.fault.SetupFault.TheVariants as setups
use Rattle.serve_command.specs.declared.start.StartFault.{StartFault}
use Rattle.serve_command.specs.declared.start.StartFault.TheVariants as starts
use Rattle.serve_command.specs.Starting.{StartsBy, Unstarted, status_of_start}
use Rattle.serve_command.specs.Parts.{worst_of}
use Rattle.serve_command.specs.Serving.{status_of, Ends, GoesOn}
use Rattle.program_laws.specs.Programs.{CountsFault, unopened, unaccepted, no_setup, unread, no_log, unwritten, unprinted, AnswersWell, ServersAreComplete, ServeRunsAreComplete}
use Rattle.program_laws.proofs.Counting.{one_more, last_in}
use Rattle.program_laws.proofs.Doors.{some_failed}

-- ---- a server that didn't start

unstarted : (options : ServeOptions) (before : Networked) (host_before : Hosted) (code : ℕ) (after : Networked) (host_after : Hosted) (path : Option (List ℕ)) →
    options.setup ≡ path → (fault : StartFault) → Unstarted path options.level host_before fault host_after → code ≡ status_of_start fault →
    AnswersWell options before host_before code after host_after
unstarted options before host_before code after host_after None setup starts.Memory un is = inl (inr is)
unstarted options before host_before code after host_after None setup (starts.File fault) un is = absurd un
unstarted options before host_before code after host_after None setup (starts.Setup fault) un is = absurd un
unstarted options before host_before code after host_after None setup starts.Heavy un is = absurd un
unstarted options before host_before code after host_after (Some path) setup (starts.File files.Open) un is =
    inr (inl (no_setup (one_more host_before.faults.open_file host_after.faults.open_file (ap (λ (h : Hosted). h.faults.open_file) un))))
unstarted options before host_before code after host_after (Some path) setup (starts.File files.Read) un is =
    inr (inl (unread path un.given un.returned
    (last_in host_after.calls host_before.calls (open_file_called path (Some un.given)) (ap (λ (h : Hosted). h.calls) un.lent.after_is))
    (last_in host_after.back host_before.back (file_returned un.returned) (ap (λ (h : Hosted). h.back) un.lent.after_is)) un.rose))
unstarted options before host_before code after host_after (Some path) setup (starts.File files.Memory) un is = inl (inr is)
unstarted options before host_before code after host_after (Some path) setup (starts.Setup setups.Memory) un is = inl (inr is)
unstarted options before host_before code after host_after (Some path) setup (starts.Setup setups.TooLong) un is = inr (inr (path, setup, is))
unstarted options before host_before code after host_after (Some path) setup (starts.Setup (setups.Statement fault)) un is = inr (inr (path, setup, is))
unstarted options before host_before code after host_after (Some path) setup (starts.Setup setups.Unfinished) un is = inr (inr (path, setup, is))
unstarted options before host_before code after host_after (Some path) setup (starts.Setup (setups.Ended end)) un is = inr (inr (path, setup, is))
unstarted options before host_before code after host_after (Some path) setup starts.Heavy un is = inr (inr (path, setup, is))
unstarted options before host_before code after host_after (Some path) setup starts.Memory un is = inl (inr is)

-- ---- the host at the start

-- its counts and its output are as before
record IsKept (before after : Hosted) : Type 0 where
  faults : after.faults ≡ before.faults
  out : after.out ≡ before.out

kept_same : (before after : Hosted) → after ≡ before → IsKept before after
kept_same before after is = record { faults = ap (λ (h : Hosted). h.faults) is; out = ap (λ (h : Hosted). h.out) is }

kept_read : (path : List ℕ) (text : List ℕ) (before after : Hosted) → FileRead path most_text text before after → IsKept before after
kept_read path text before after read =
    record { faults = ap (λ (h : Hosted). h.faults) read.lent.after_is; out = ap (λ (h : Hosted). h.out) read.lent.after_is }

kept_start : (setup : Option (List ℕ)) (level : Level) (before : Hosted) (start : Chronicle) (after : Hosted) → StartsBy setup level before start after → IsKept before after
kept_start None level before start after by = kept_same before after by.1
kept_start (Some path) level before start after by = kept_read path by.text before after by.read

-- ---- the line

printed : (before : Networked) (host_before between : Hosted) (code : ℕ) (after : Networked) (host_after : Hosted) (line : List ℕ) → between.out ≡ host_before.out →
    Printed line 0 between code host_after → (code ≡ 0) ⊎ CountsFault before after host_before host_after
printed before host_before between code after host_after line same p = elim p.prints [
  | inl whole ↦ inl whole.0
  | inr part ↦ inr (unprinted p.old_out p.new_out (sym same ∙ p.old_out_is) (ap (λ (h : Hosted). h.out) p.after_is) part.2)
]

-- ---- the log

-- what came of the log, and then of the line
ended : (before : Networked) (host_before start between : Hosted) (code printed_code : ℕ) (after : Networked) (host_after : Hosted) (line : List ℕ) (history : Chronicle)
    (log : Option (List ℕ)) (fault : Option WriteFault) → IsKept host_before start → Logs log history fault start between →
    Printed line 0 between printed_code host_after → code ≡ status_after fault printed_code →
    ((code ≡ 0) ⊎ (code ≡ 5)) ⊎ CountsFault before after host_before host_after
ended before host_before start between code printed_code after host_after line history None None kept logs p is =
    elim (printed before host_before between printed_code after host_after line (ap (λ (h : Hosted). h.out) logs.1 ∙ kept.out) p) [
      | inl zero ↦ inl (inl (is ∙ zero))
      | inr counts ↦ inr counts
    ]
ended before host_before start between code printed_code after host_after line history None (Some fault) kept logs p is = absurd (none-some fault (sym logs.0))
ended before host_before start between code printed_code after host_after line history (Some path) None kept logs p is =
    elim (printed before host_before between printed_code after host_after line (ap (λ (h : Hosted). h.out) logs.written.made.after_is ∙ kept.out) p) [
      | inl zero ↦ inl (inl (is ∙ zero))
      | inr counts ↦ inr counts
    ]
ended before host_before start between code printed_code after host_after line history (Some path) (Some writes.Make) kept logs p is =
    inr (no_log (one_more host_before.faults.make_file host_after.faults.make_file (
    ap (λ (h : Hosted). h.faults.make_file) p.after_is ∙ (ap (λ (h : Hosted). h.faults.make_file) logs.unwritten ∙ ap (λ (f : HostFaults). counted f.make_file) kept.faults)
    )))
ended before host_before start between code printed_code after host_after line history (Some path) (Some writes.Write) kept logs p is =
    let w = logs.unwritten in
    inr (unwritten path w.given w.returned
    (last_in host_after.calls start.calls (make_file_called path (Some w.given))
    (ap (λ (h : Hosted). h.calls) p.after_is ∙ ap (λ (h : Hosted). h.calls) w.made.after_is))
    (last_in host_after.back start.back (new_file_returned w.returned) (ap (λ (h : Hosted). h.back) p.after_is ∙ ap (λ (h : Hosted). h.back) w.made.after_is)) w.rose)
ended before host_before start between code printed_code after host_after line history (Some path) (Some writes.Memory) kept logs p is = inl (inr is)

-- ---- a server that started

served : (options : ServeOptions) (before : Networked) (host_before start : Hosted) (code end_code : ℕ) (after : Networked) (host_after : Hosted) (history : Chronicle)
    (worst : Option HostFault) → IsKept host_before start → Ends options history start end_code host_after → code ≡ status_of worst end_code →
    (worst ≡ Some lacks.Failed → CountsFault before after host_before host_after) → AnswersWell options before host_before code after host_after
served options before host_before start code end_code after host_after history None kept (inl all) is failed =
    elim (ended before host_before start all.between end_code all.printed_code after host_after _ history options.log all.fault kept all.logs all.printed all.code_is) [
      | inl good ↦ elim good [ inl zero ↦ inl (inl (is ∙ zero)) | inr five ↦ inl (inr (is ∙ five)) ]
      | inr counts ↦ inr (inl counts)
    ]
served options before host_before start code end_code after host_after history None kept (inr none) is failed = inl (inr (is ∙ none.0))
served options before host_before start code end_code after host_after history (Some lacks.Memory) kept all is failed = inl (inr is)
served options before host_before start code end_code after host_after history (Some lacks.Failed) kept all is failed = inr (inl (failed refl))

goes_on : (options : ServeOptions) (before : Networked) (host_before start : Hosted) (code : ℕ) (after : Networked) (host_after : Hosted) (history : Chronicle) →
    IsKept host_before start → GoesOn options history before start code after host_after → AnswersWell options before host_before code after host_after
goes_on options before host_before start code after host_after history kept (inl none) = inl (inr none.0)
goes_on options before host_before start code after host_after history kept (inr (inl closed)) =
    inr (inl (unopened (one_more before.faults after.faults (ap (λ (n : Networked). n.faults) closed.1))))
goes_on options before host_before start code after host_after history kept (inr (inr s)) =
    served options before host_before start code s.end_code after host_after s.history (worst_of s.parts) kept s.ends s.code_is failed
  where
    failed : worst_of s.parts ≡ Some lacks.Failed → CountsFault before after host_before host_after
    failed worst =
        let door = some_failed options.level history s.history options.seed options.accept 0 s.opened s.parts s.returned s.are_parts worst in
        unaccepted s.returned door.door (ap (λ (n : Networked). n.back) s.doors.network) door.inside door.some

pub serves : ServersAreComplete
serves options before host_before code after host_after (inl back) =
    unstarted options before host_before code after host_after options.setup refl back.fault back.unstarted back.code_is
serves options before host_before code after host_after (inr started) =
    goes_on options before host_before started.between code after host_after started.start
    (kept_start options.setup options.level host_before started.start started.between started.starts) started.goes_on

pub runs : ServeRunsAreComplete
runs args options before host_before code after host_after is (inl (line, line_is, obeys)) =
    let same : line ≡ lines.Serve options = one_command args line (lines.Serve options) line_is is in
    serves options before host_before code after host_after (subst (λ (l : CommandLine). Obeys l before host_before code after host_after) same obeys)
runs args options before host_before code after host_after is (inr untouched) = inl (inr untouched.0.0)
