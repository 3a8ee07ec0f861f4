-- Why the program answers a status.
use Rattle.std.proofs.Common.{◌≡◌, ◌⊎◌, inl, inr, Bool, true, false, ℕ, List, [], ◌∷◌, ◌++◌, Option, Some, None, refl, sym, ◌∙◌, ap, subst, arith, append_assoc}
use Rattle.std.proofs.lemmas.List.{append-nil}
use Rattle.std.proofs.lemmas.Option.{none-some}
use Rattle.cell_base.specs.declared.level.Level.{Level}
use Rattle.link_traits.specs.Faults.{counted}
use Rattle.link_traits.specs.Host.{Hosted, HostCall, Returned, open_file_called, make_file_called, file_returned, new_file_returned}
use Rattle.link_traits.specs.declared.faults.HostFaults.{HostFaults}
use Rattle.link_traits.specs.declared.host.HostFault.{HostFault}
use Rattle.link_traits.specs.declared.host.HostFault.TheVariants as lacks
use Rattle.history_core.specs.Chronicle.{Chronicle}
use Rattle.host_calls.specs.Printing.{Printed}
use Rattle.host_calls.specs.Reading.{FileRead}
use Rattle.host_calls.specs.declared.reading.FileFault.TheVariants as files
use Rattle.host_calls.specs.declared.writing.WriteFault.{WriteFault}
use Rattle.host_calls.specs.declared.writing.WriteFault.TheVariants as writes
use Rattle.log_file.specs.Logging.{Logs, LogsAndPrints, status_after}
use Rattle.doors.specs.Network.{Networked}
use Rattle.block_machine.specs.declared.end.End.{End}
use Rattle.block_machine.specs.declared.end.End.TheVariants as ends
use Rattle.session_core.specs.Ends.{outer_end}
use Rattle.session_core.specs.Serve.{Blames}
use Rattle.check_command.specs.Verdict.{IsVerdict}
use Rattle.check_command.specs.Checks.{Checks}
use Rattle.check_command.specs.JudgeVerdict.{judgement_code, IsJudgeVerdict}
use Rattle.check_command.specs.Judges.{Judges}
use Rattle.cycle_report.specs.declared.judgement.Judgement.{Judgement}
use Rattle.cycle_report.specs.declared.judgement.Judgement.TheVariants.{Top, Upto, Nothing}
use Rattle.sim_command.specs.Simulations.{Simulates}
use Rattle.program_laws.proofs.Playing.{ends as no_cut}
use Rattle.command_line.specs.Commands.{IsPipe, IsServe, IsCheck, IsJudge, IsSim, IsNoCommand, IsCommandLine}
use Rattle.command_line.specs.declared.reading.CommandLine.{CommandLine}
use Rattle.command_line.specs.declared.reading.CommandLine.TheVariants as lines
use Rattle.command_line.specs.declared.serve.ServeOptions.{ServeOptions}
use Rattle.monkey_server.specs.Program.{status_of, Piped, Pipes, Stops, Obeys}
use Rattle.setup_client.specs.Client.{most_text}
use Rattle.setup_session.specs.declared.fault.SetupFault.TheVariants as setups
use Rattle.serve_command.specs.declared.start.StartFault.{StartFault}
use Rattle.serve_command.specs.declared.start.StartFault.TheVariants as starts
use Rattle.serve_command.specs.Starting.{StartsBy, Unstarted, status_of_start}
use Rattle.serve_command.specs.Parts.{worst_of}
use Rattle.serve_command.specs.Serving.{status_of as status_with, Ends, GoesOn, Serves}
use Rattle.program_laws.specs.Checking.{HasPrinted}
use Rattle.program_laws.specs.Statuses.{ReadFailed, link_read, file_read, WriteFailed, link_write, log_write, out_write, CallFailed, no_link, no_file, no_new_file, no_network, no_accept, InputFailed, bad_session, bad_text, bad_history, with_setup, IsClientsFault, HasItsCause, StatusesHaveCauses}
use Rattle.program_laws.proofs.Counting.{one_more}
use Rattle.program_laws.proofs.Doors.{some_failed}
use Rattle.program_laws.proofs.Simulating.{within}

-- ---- one status

-- what a judge prints has status 0 or 1
code_of : (judgement : Judgement) → (judgement_code judgement ≡ 0) ⊎ (judgement_code judgement ≡ 1)
code_of (Top order) = inl refl
code_of (Upto level order cycle) = inl refl
code_of (Nothing cycle) = inr refl

zero_or_one : (code n : ℕ) → code ≡ n → (n ≡ 0) ⊎ (n ≡ 1) → (code ≡ 0) ⊎ (code ≡ 1)
zero_or_one code n is (inl zero) = inl (is ∙ zero)
zero_or_one code n is (inr one) = inr (is ∙ one)

judged_zero_or_one : (bytes lines : List ℕ) (code : ℕ) → IsJudgeVerdict bytes lines code → (code ≡ 0) ⊎ (code ≡ 1)
judged_zero_or_one bytes lines code (inl told) = zero_or_one code (judgement_code told.0) told.1 (code_of told.0)
judged_zero_or_one bytes lines code (inr (inl breach)) = inr breach.0
judged_zero_or_one bytes lines code (inr (inr fault)) = inr fault.0

module _ (args : List (List ℕ)) (network : Networked) (before : Hosted) (code : ℕ) (left : Networked) (after : Hosted) where
  abbrev Has : Type 0
  Has = HasItsCause args network before code left after

  -- 0 and 5 ask for nothing
  free : (code ≡ 0) ⊎ (code ≡ 5) → Has
  free (inl is) = record {
    one = λ other. absurd (omega (arith, is, other));
    two = λ other. absurd (omega (arith, is, other));
    three = λ other. absurd (omega (arith, is, other));
    four = λ other. absurd (omega (arith, is, other));
    six = λ other. absurd (omega (arith, is, other));
    most = omega (arith, is);
  }
  free (inr is) = record {
    one = λ other. absurd (omega (arith, is, other));
    two = λ other. absurd (omega (arith, is, other));
    three = λ other. absurd (omega (arith, is, other));
    four = λ other. absurd (omega (arith, is, other));
    six = λ other. absurd (omega (arith, is, other));
    most = omega (arith, is);
  }

  by_input : code ≡ 1 → InputFailed args before code after → Has
  by_input is cause = record {
    one = λ other. cause;
    two = λ other. absurd (omega (arith, is, other));
    three = λ other. absurd (omega (arith, is, other));
    four = λ other. absurd (omega (arith, is, other));
    six = λ other. absurd (omega (arith, is, other));
    most = omega (arith, is);
  }

  by_words : code ≡ 2 → IsNoCommand args → Has
  by_words is cause = record {
    one = λ other. absurd (omega (arith, is, other));
    two = λ other. cause;
    three = λ other. absurd (omega (arith, is, other));
    four = λ other. absurd (omega (arith, is, other));
    six = λ other. absurd (omega (arith, is, other));
    most = omega (arith, is);
  }

  by_read : code ≡ 3 → ReadFailed before after → Has
  by_read is cause = record {
    one = λ other. absurd (omega (arith, is, other));
    two = λ other. absurd (omega (arith, is, other));
    three = λ other. cause;
    four = λ other. absurd (omega (arith, is, other));
    six = λ other. absurd (omega (arith, is, other));
    most = omega (arith, is);
  }

  by_write : code ≡ 4 → WriteFailed before after → Has
  by_write is cause = record {
    one = λ other. absurd (omega (arith, is, other));
    two = λ other. absurd (omega (arith, is, other));
    three = λ other. absurd (omega (arith, is, other));
    four = λ other. cause;
    six = λ other. absurd (omega (arith, is, other));
    most = omega (arith, is);
  }

  by_call : code ≡ 6 → CallFailed network left before after → Has
  by_call is cause = record {
    one = λ other. absurd (omega (arith, is, other));
    two = λ other. absurd (omega (arith, is, other));
    three = λ other. absurd (omega (arith, is, other));
    four = λ other. absurd (omega (arith, is, other));
    six = λ other. cause;
    most = omega (arith, is);
  }

  -- ---- pipe

  of_end : (level : Level) (words : List ℕ) → IsPipe args level words → (p : Piped level words before code after) → (end : End) (short : Bool) →
      p.outcome.end ≡ end → code ≡ status_of end short → Has
  of_end level words pipe p end true same is = free (inr is)
  of_end level words pipe p ends.Terminated false same is = free (inl is)
  of_end level words pipe p ends.Closed false same is = free (inl is)
  of_end level words pipe p ends.Cancelled false same is = free (inl is)
  of_end level words pipe p ends.Memory false same is = free (inr is)
  of_end level words pipe p ends.ReadFault false same is =
      let blames = subst (λ (e : End). Blames (outer_end e) p.given p.returned p.serves.account.taken) same p.serves.serves.blames in
      by_read is (link_read p.given p.returned (record {
        early = [];
        late = [];
        calls = ap (λ (h : Hosted). h.calls) p.after_is;
        early_back = [];
        late_back = [];
        back = ap (λ (h : Hosted). h.back) p.after_is;
      }) blames.1)
  of_end level words pipe p ends.WriteFault false same is =
      let blames = subst (λ (e : End). Blames (outer_end e) p.given p.returned p.serves.account.taken) same p.serves.serves.blames in
      by_write is (link_write p.given p.returned (record {
        early = [];
        late = [];
        calls = ap (λ (h : Hosted). h.calls) p.after_is;
        early_back = [];
        late_back = [];
        back = ap (λ (h : Hosted). h.back) p.after_is;
      }) blames)
  of_end level words pipe p ends.Cut false same is = by_input is (bad_session level words pipe p (subst IsClientsFault (sym same) tt))
  of_end level words pipe p (ends.Protocol fault) false same is = by_input is (bad_session level words pipe p (subst IsClientsFault (sym same) tt))
  of_end level words pipe p (ends.Refused state) false same is = by_input is (bad_session level words pipe p (subst IsClientsFault (sym same) tt))
  of_end level words pipe p ends.Spent false same is = by_input is (bad_session level words pipe p (subst IsClientsFault (sym same) tt))

  of_pipe : (level : Level) (words : List ℕ) → IsPipe args level words → Pipes level words before code after → Has
  of_pipe level words pipe (inl p) = of_end level words pipe p p.outcome.end p.outcome.short refl p.code_is
  of_pipe level words pipe (inr (inl none)) =
      by_call none.0 (no_link (one_more before.faults.link after.faults.link (ap (λ (h : Hosted). h.faults.link) none.1)))
  of_pipe level words pipe (inr (inr lacking)) = free (inr lacking.0)

  -- ---- what is printed

  of_line : (line : List ℕ) (whole : ℕ) (between : Hosted) → between.out ≡ before.out → Printed line whole between code after →
      (code ≡ whole → HasPrinted line before after → Has) → Has
  of_line line whole between same p good =
      let old : before.out ≡ Some p.old_out = sym same ∙ p.old_out_is in
      let new : after.out ≡ Some p.new_out = ap (λ (h : Hosted). h.out) p.after_is in
      elim p.prints [
        | inl all ↦ good all.0 (record { old_out = p.old_out; new_out = p.new_out; old_is = old; new_is = new; wrote = all.1 })
        | inr part ↦ by_write part.0 (out_write p.old_out p.new_out old new part.2)
      ]

  -- ---- check

  of_verdict : (path bytes line : List ℕ) (wide : Bool) (whole : ℕ) → IsCheck args path wide → IsVerdict bytes line whole → code ≡ whole → HasPrinted line before after → Has
  of_verdict path bytes line wide whole check (inl right) is printed = free (inl (is ∙ right.0))
  of_verdict path bytes line wide whole check (inr (inl breach)) is printed =
      by_input (is ∙ breach.0)
      (bad_text path bytes line wide check (subst (λ (c : ℕ). IsVerdict bytes line c) breach.0 (inr (inl breach))) printed)
  of_verdict path bytes line wide whole check (inr (inr fault)) is printed =
      by_input (is ∙ fault.0)
      (bad_text path bytes line wide check (subst (λ (c : ℕ). IsVerdict bytes line c) fault.0 (inr (inr fault))) printed)

  of_check : (path : List ℕ) (wide : Bool) → IsCheck args path wide → Checks path before code after → Has
  of_check path wide check (inl unopened) =
      by_call unopened.0 (no_file (one_more before.faults.open_file after.faults.open_file (ap (λ (h : Hosted). h.faults.open_file) unopened.1)))
  of_check path wide check (inr (inl unread)) =
      let f = unread.1 in
      by_read unread.0 (file_read path f.given f.returned (record {
        early = [];
        late = [];
        calls = ap (λ (h : Hosted). h.calls) f.lent.after_is;
        early_back = [];
        late_back = [];
        back = ap (λ (h : Hosted). h.back) f.lent.after_is;
      }) f.rose)
  of_check path wide check (inr (inr (inl lacking))) = free (inr lacking.0)
  of_check path wide check (inr (inr (inr j))) =
      of_line j.line j.whole j.between (ap (λ (h : Hosted). h.out) j.read.lent.after_is) j.printed (of_verdict path j.bytes j.line wide j.whole check j.verdict)

  -- ---- judge

  of_judgement : (path bytes lines : List ℕ) (whole : ℕ) → IsJudge args path → IsJudgeVerdict bytes lines whole → (whole ≡ 0) ⊎ (whole ≡ 1) →
      code ≡ whole → HasPrinted lines before after → Has
  of_judgement path bytes lines whole judge verdict (inl zero) is printed = free (inl (is ∙ zero))
  of_judgement path bytes lines whole judge verdict (inr one) is printed =
      by_input (is ∙ one) (bad_history path bytes lines judge (subst (λ (c : ℕ). IsJudgeVerdict bytes lines c) one verdict) printed)

  of_judge : (path : List ℕ) → IsJudge args path → Judges path before code after → Has
  of_judge path judge (inl unopened) =
      by_call unopened.0 (no_file (one_more before.faults.open_file after.faults.open_file (ap (λ (h : Hosted). h.faults.open_file) unopened.1)))
  of_judge path judge (inr (inl unread)) =
      let f = unread.1 in
      by_read unread.0 (file_read path f.given f.returned (record {
        early = [];
        late = [];
        calls = ap (λ (h : Hosted). h.calls) f.lent.after_is;
        early_back = [];
        late_back = [];
        back = ap (λ (h : Hosted). h.back) f.lent.after_is;
      }) f.rose)
  of_judge path judge (inr (inr (inl lacking))) = free (inr lacking.0)
  of_judge path judge (inr (inr (inr j))) =
      of_line j.lines j.whole j.between (ap (λ (h : Hosted). h.out) j.read.lent.after_is) j.printed
      (of_judgement path j.bytes j.lines j.whole judge j.verdict (judged_zero_or_one j.bytes j.lines j.whole j.verdict))

-- ---- a log and a line

-- what was called so far
record Kept (before now : Hosted) : Type 0 where
  faults : now.faults ≡ before.faults
  out : now.out ≡ before.out
  early : List HostCall
  calls : now.calls ≡ before.calls ++ early
  early_back : List Returned
  back : now.back ≡ before.back ++ early_back

kept_same : (before now : Hosted) → now ≡ before → Kept before now
kept_same before now is = record {
  faults = ap (λ (h : Hosted). h.faults) is;
  out = ap (λ (h : Hosted). h.out) is;
  early = [];
  calls = ap (λ (h : Hosted). h.calls) is ∙ sym (append-nil before.calls);
  early_back = [];
  back = ap (λ (h : Hosted). h.back) is ∙ sym (append-nil before.back);
}

kept_read : (path text : List ℕ) (before now : Hosted) → FileRead path most_text text before now → Kept before now
kept_read path text before now read = record {
  faults = ap (λ (h : Hosted). h.faults) read.lent.after_is;
  out = ap (λ (h : Hosted). h.out) read.lent.after_is;
  early = open_file_called path (Some read.given) ∷ [];
  calls = ap (λ (h : Hosted). h.calls) read.lent.after_is;
  early_back = file_returned read.returned ∷ [];
  back = ap (λ (h : Hosted). h.back) read.lent.after_is;
}

kept_start : (setup : Option (List ℕ)) (level : Level) (before : Hosted) (start : Chronicle) (now : Hosted) → StartsBy setup level before start now → Kept before now
kept_start None level before start now by = kept_same before now by.1
kept_start (Some path) level before start now by = kept_read path by.text before now by.read

module _ (args : List (List ℕ)) (network : Networked) (before : Hosted) (code : ℕ) (left : Networked) (after : Hosted) where
  abbrev HasOne : Type 0
  HasOne = HasItsCause args network before code left after

  -- what came of the line, after a log that is no reason
  of_last : (line : List ℕ) (between : Hosted) (printed_code : ℕ) → between.out ≡ before.out → Printed line 0 between printed_code after → code ≡ printed_code → HasOne
  of_last line between printed_code same p is =
      of_line args network before code left after line 0 between same (subst (λ (c : ℕ). Printed line 0 between c after) (sym is) p)
      (λ zero printed. free args network before code left after (inl zero))

  of_log : (log : Option (List ℕ)) (fault : Option WriteFault) (history : Chronicle) (line : List ℕ) (now between : Hosted) (printed_code : ℕ) → Kept before now →
      Logs log history fault now between → Printed line 0 between printed_code after → code ≡ status_after fault printed_code → HasOne
  of_log None None history line now between printed_code kept logs p is =
      of_last line between printed_code (ap (λ (h : Hosted). h.out) logs.1 ∙ kept.out) p is
  of_log None (Some fault) history line now between printed_code kept logs p is = absurd (none-some fault (sym logs.0))
  of_log (Some path) None history line now between printed_code kept logs p is =
      of_last line between printed_code (ap (λ (h : Hosted). h.out) logs.written.made.after_is ∙ kept.out) p is
  of_log (Some path) (Some writes.Make) history line now between printed_code kept logs p is =
      by_call args network before code left after is (no_new_file (one_more before.faults.make_file after.faults.make_file
      (ap (λ (h : Hosted). h.faults.make_file) p.after_is
      ∙ (ap (λ (h : Hosted). h.faults.make_file) logs.unwritten ∙ ap (λ (f : HostFaults). counted f.make_file) kept.faults))))
  of_log (Some path) (Some writes.Write) history line now between printed_code kept logs p is =
      let w = logs.unwritten in
      by_write args network before code left after is (log_write path w.given w.returned (record {
        early = kept.early;
        late = [];
        calls = ap (λ (h : Hosted). h.calls) p.after_is ∙ (ap (λ (h : Hosted). h.calls) w.made.after_is
            ∙ (ap (λ (cs : List HostCall). cs ++ make_file_called path (Some w.given) ∷ []) kept.calls
            ∙ append_assoc before.calls kept.early (make_file_called path (Some w.given) ∷ [])));
        early_back = kept.early_back;
        late_back = [];
        back = ap (λ (h : Hosted). h.back) p.after_is ∙ (ap (λ (h : Hosted). h.back) w.made.after_is
            ∙ (ap (λ (bs : List Returned). bs ++ new_file_returned w.returned ∷ []) kept.back
            ∙ append_assoc before.back kept.early_back (new_file_returned w.returned ∷ [])));
      }) w.rose)
  of_log (Some path) (Some writes.Memory) history line now between printed_code kept logs p is = free args network before code left after (inr is)

  of_both : (log : Option (List ℕ)) (history : Chronicle) (line : List ℕ) (now : Hosted) (end_code : ℕ) → Kept before now →
      LogsAndPrints log history line now end_code after → code ≡ end_code → HasOne
  of_both log history line now end_code kept all is =
      of_log log all.fault history line now all.between all.printed_code kept all.logs all.printed (is ∙ all.code_is)

  -- ---- sim

  of_sim : (level : Level) (seed sessions queries : ℕ) (log : Option (List ℕ)) → IsSim args level seed sessions queries log →
      Simulates level seed sessions queries log before code after → HasOne
  of_sim level seed sessions queries log sim (inl lacking) = free args network before code left after (inr lacking.0)
  of_sim level seed sessions queries log sim (inr (inl cut)) =
      absurd (no_cut level seed sessions queries (within 64 sessions _ sim.2.sessions_are) (within 200 queries _ sim.2.queries_are) cut.2)
  of_sim level seed sessions queries log sim (inr (inr t)) = of_both log t.history t.line before code (kept_same before before refl) t.told refl

  -- ---- serve

  of_setup : (options : ServeOptions) (path : List ℕ) → IsServe args options → options.setup ≡ Some path → code ≡ 1 → HasOne
  of_setup options path serve is one = by_input args network before code left after one (with_setup options path serve is)

  of_unstarted : (options : ServeOptions) → IsServe args options → (setup : Option (List ℕ)) → options.setup ≡ setup → (fault : StartFault) →
      Unstarted setup options.level before fault after → code ≡ status_of_start fault → HasOne
  of_unstarted options serve None setup starts.Memory un is = free args network before code left after (inr is)
  of_unstarted options serve None setup (starts.File fault) un is = absurd un
  of_unstarted options serve None setup (starts.Setup fault) un is = absurd un
  of_unstarted options serve None setup starts.Heavy un is = absurd un
  of_unstarted options serve (Some path) setup (starts.File files.Open) un is =
      by_call args network before code left after is
      (no_file (one_more before.faults.open_file after.faults.open_file (ap (λ (h : Hosted). h.faults.open_file) un)))
  of_unstarted options serve (Some path) setup (starts.File files.Read) un is =
      by_read args network before code left after is (file_read path un.given un.returned (record {
        early = [];
        late = [];
        calls = ap (λ (h : Hosted). h.calls) un.lent.after_is;
        early_back = [];
        late_back = [];
        back = ap (λ (h : Hosted). h.back) un.lent.after_is;
      }) un.rose)
  of_unstarted options serve (Some path) setup (starts.File files.Memory) un is = free args network before code left after (inr is)
  of_unstarted options serve (Some path) setup (starts.Setup setups.Memory) un is = free args network before code left after (inr is)
  of_unstarted options serve (Some path) setup (starts.Setup setups.TooLong) un is = of_setup options path serve setup is
  of_unstarted options serve (Some path) setup (starts.Setup (setups.Statement fault)) un is = of_setup options path serve setup is
  of_unstarted options serve (Some path) setup (starts.Setup setups.Unfinished) un is = of_setup options path serve setup is
  of_unstarted options serve (Some path) setup (starts.Setup (setups.Ended end)) un is = of_setup options path serve setup is
  of_unstarted options serve (Some path) setup starts.Heavy un is = of_setup options path serve setup is
  of_unstarted options serve (Some path) setup starts.Memory un is = free args network before code left after (inr is)

  of_worst : (options : ServeOptions) (now : Hosted) (end_code : ℕ) (history : Chronicle) (worst : Option HostFault) → Kept before now →
      Ends options history now end_code after → code ≡ status_with worst end_code → (worst ≡ Some lacks.Failed → CallFailed network left before after) → HasOne
  of_worst options now end_code history None kept (inl all) is failed = of_both options.log history _ now end_code kept all is
  of_worst options now end_code history None kept (inr none) is failed = free args network before code left after (inr (is ∙ none.0))
  of_worst options now end_code history (Some lacks.Memory) kept all is failed = free args network before code left after (inr is)
  of_worst options now end_code history (Some lacks.Failed) kept all is failed = by_call args network before code left after is (failed refl)

  of_serving : (options : ServeOptions) (start : Chronicle) (now : Hosted) → Kept before now → GoesOn options start network now code left after → HasOne
  of_serving options start now kept (inl none) = free args network before code left after (inr none.0)
  of_serving options start now kept (inr (inl shut)) =
      by_call args network before code left after shut.0 (no_network (one_more network.faults left.faults (ap (λ (n : Networked). n.faults) shut.1)))
  of_serving options start now kept (inr (inr s)) = of_worst options now s.end_code s.history (worst_of s.parts) kept s.ends s.code_is failed
    where
      failed : worst_of s.parts ≡ Some lacks.Failed → CallFailed network left before after
      failed worst =
          let door = some_failed options.level start s.history options.seed options.accept 0 s.opened s.parts s.returned s.are_parts worst in
          no_accept s.returned door.door (ap (λ (n : Networked). n.back) s.doors.network) door.inside door.some

  of_serve : (options : ServeOptions) → IsServe args options → Serves options network before code left after → HasOne
  of_serve options serve (inl back) = of_unstarted options serve options.setup refl back.fault back.unstarted back.code_is
  of_serve options serve (inr s) = of_serving options s.start s.between (kept_start options.setup options.level before s.start s.between s.starts) s.goes_on

  -- ---- all commands

  of_stop : (address : List ℕ) → Stops address network code left → HasOne
  of_stop address (inl sent) = free args network before code left after (inl sent.0)
  of_stop address (inr (inl unsent)) =
      by_call args network before code left after unsent.0 (no_network (one_more network.faults left.faults (ap (λ (n : Networked). n.faults) unsent.1)))
  of_stop address (inr (inr lacking)) = free args network before code left after (inr lacking.0)

  of_command : (line : CommandLine) → IsCommandLine args line → Obeys line network before code left after → HasOne
  of_command (lines.Pipe pipe) is obeys = of_pipe args network before code left after pipe.level pipe.words is obeys.0
  of_command (lines.Serve options) is obeys = of_serve options is obeys
  of_command (lines.Check path wide) is obeys = of_check args network before code left after path wide is obeys.0
  of_command (lines.Judge path) is obeys = of_judge args network before code left after path is obeys.0
  of_command (lines.Sim plan) is obeys = of_sim plan.level plan.seed plan.sessions plan.queries plan.log is obeys.0
  of_command (lines.Stop address) is obeys = of_stop address obeys.0
  of_command (lines.Help topic) is obeys =
      of_line args network before code left after _ 0 before refl obeys.0 (λ zero printed. free args network before code left after (inl zero))
  of_command lines.Version is obeys =
      of_line args network before code left after _ 0 before refl obeys.0 (λ zero printed. free args network before code left after (inl zero))
  of_command lines.Unknown is obeys =
      of_line args network before code left after _ 2 before refl obeys.0 (λ two printed. by_words args network before code left after two is)

pub have_causes : StatusesHaveCauses
have_causes args network before code left after (inl (line, line_is, obeys)) = of_command args network before code left after line line_is obeys
have_causes args network before code left after (inr untouched) = free args network before code left after (inr untouched.0.0)
