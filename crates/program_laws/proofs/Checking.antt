-- What `check` answers where no fault is counted.
use Rattle.std.proofs.Common.{◌≡◌, inl, inr, ℕ, List, ◌++◌, Option, Some, None, sym, ◌∙◌, ap, subst}
use Rattle.std.specs.Prelude.{IfSome}
use Rattle.std.proofs.lemmas.List.{append-nil}
use Rattle.link_traits.specs.Traffic.{Traffic, Sight, Both, untouched}
use Rattle.link_traits.specs.Host.{Hosted, bytes_at}
use Rattle.host_calls.specs.Printing.{Printed}
use Rattle.host_calls.specs.Reading.{ReadWhole}
use Rattle.check_command.specs.Verdict.{IsVerdict}
use Rattle.check_command.specs.Checks.{most_bytes, Judged}
use Rattle.command_line.specs.declared.reading.CommandLine.{CommandLine}
use Rattle.command_line.specs.declared.reading.CommandLine.TheVariants as lines
use Rattle.command_line.proofs.OneCommand.{one_command}
use Rattle.monkey_server.specs.Program.{Obeys}
use Rattle.program_laws.specs.Checking.{HasPrinted, PrintsUndisturbed, ChecksUndisturbed, JudgesWhole, ChecksAreComplete, CheckRunsAreComplete, CheckRunsAreExact, LegalLogsCheck}
use Rattle.program_laws.proofs.Counting.{one_more}
use Rattle.program_laws.proofs.Verdicts.{one_verdict, longer_verdict, legal_right}

-- ---- what is printed

-- a line that was printed where the output counted no fault
pub printed_whole : (before between after : Hosted) (line : List ℕ) (whole code : ℕ) → between.out ≡ before.out → Printed line whole between code after →
    PrintsUndisturbed before after → (code ≡ whole) × HasPrinted line before after
printed_whole before between after line whole code same p quiet =
    let old : before.out ≡ Some p.old_out = sym same ∙ p.old_out_is in
    let new : after.out ≡ Some p.new_out = ap (λ (h : Hosted). h.out) p.after_is in
    elim p.prints [
      | inl all ↦ (all.0, record { old_out = p.old_out; new_out = p.new_out; old_is = old; new_is = new; wrote = all.1 })
      | inr part ↦ absurd (quiet p.old_out p.new_out old new part.2)
    ]

-- ---- what is read

-- the verdict on what was read of a file is the one on all that the file told
verdict_on : (bytes line : List ℕ) (code : ℕ) (given returned : Option Traffic) → Both (ReadWhole most_bytes bytes) given returned → IsVerdict bytes line code →
    IfSome given (λ told. IsVerdict told.left line code)
verdict_on bytes line code None None read verdict = tt
verdict_on bytes line code None (Some new) read verdict = absurd read
verdict_on bytes line code (Some old) None read verdict = absurd read
verdict_on bytes line code (Some old) (Some new) read verdict = elim read.whole [
  | inl none ↦
      subst (λ (b : List ℕ). IsVerdict b line code) (sym (read.so_far.left ∙ ap (λ (b : List ℕ). bytes ++ b) none ∙ append-nil bytes)) verdict
  | inr long ↦
      subst (λ (b : List ℕ). IsVerdict b line code) (sym read.so_far.left) (longer_verdict bytes new.left line code long verdict)
]

judged : (path : List ℕ) (before : Hosted) (code : ℕ) (after : Hosted) → Judged path before code after → ChecksUndisturbed path before after →
    JudgesWhole path before code after
judged path before code after j quiet =
    let lent = j.read.lent in
    let printed = printed_whole before j.between after j.line j.whole code (ap (λ (h : Hosted). h.out) lent.after_is) j.printed quiet.prints in
    let verdict : IsVerdict j.bytes j.line code = subst (λ (c : ℕ). IsVerdict j.bytes j.line c) (sym printed.0) j.verdict in
    record {
      given = j.read.given;
      returned = j.read.returned;
      called = ap (λ (h : Hosted). h.calls) j.printed.after_is ∙ ap (λ (h : Hosted). h.calls) lent.after_is;
      back = ap (λ (h : Hosted). h.back) j.printed.after_is ∙ ap (λ (h : Hosted). h.back) lent.after_is;
      told = lent.told;
      bytes = j.bytes;
      line = j.line;
      verdict = verdict;
      whole = verdict_on j.bytes j.line code j.read.given.traffic j.read.returned.traffic j.read.bytes_are verdict;
      printed = printed.1;
    }

-- ---- the command

pub checks_complete : ChecksAreComplete
checks_complete path before code after (inl unopened) quiet =
    absurd (quiet.opens (one_more before.faults.open_file after.faults.open_file (ap (λ (h : Hosted). h.faults.open_file) unopened.1)))
checks_complete path before code after (inr (inl unread)) quiet =
    let f = unread.1 in
    absurd (quiet.reads f.given f.returned (ap (λ (h : Hosted). h.calls) f.lent.after_is) (ap (λ (h : Hosted). h.back) f.lent.after_is) f.rose)
checks_complete path before code after (inr (inr (inl lacks))) quiet = inl lacks.0
checks_complete path before code after (inr (inr (inr j))) quiet = inr (judged path before code after j quiet)

pub check_runs_complete : CheckRunsAreComplete
check_runs_complete args path wide network left before code after is (inl (line, line_is, obeys)) quiet =
    let same : line ≡ lines.Check path wide = one_command args line (lines.Check path wide) line_is is in
    checks_complete path before code after (subst (λ (l : CommandLine). Obeys l network before code left after) same obeys).0 quiet
check_runs_complete args path wide network left before code after is (inr untouched) quiet = inl untouched.0.0

-- the file was handed out with the bytes that the host told of the path
verdict_told : (given : Sight) (told : Option (List ℕ)) (bytes line : List ℕ) (code : ℕ) → told ≡ Some bytes →
    IfSome told (λ b. given.traffic ≡ Some (untouched b)) → IfSome given.traffic (λ t. IsVerdict t.left line code) → IsVerdict bytes line code
verdict_told given told bytes line code is same verdict =
    let traffic : given.traffic ≡ Some (untouched bytes) = subst (λ (o : Option (List ℕ)). IfSome o (λ b. given.traffic ≡ Some (untouched b))) is same in
    subst (λ (o : Option Traffic). IfSome o (λ t. IsVerdict t.left line code)) traffic verdict

pub check_runs_exact : CheckRunsAreExact
check_runs_exact args path wide network left before code after bytes line status is does quiet told verdict =
    elim (check_runs_complete args path wide network left before code after is does quiet) [
      | inl five ↦ inl five
      | inr j ↦
          let one = one_verdict bytes j.line line code status (verdict_told j.given (bytes_at before.files path) bytes j.line code told j.told j.whole) verdict in
          inr (one.1, subst (λ (l : List ℕ). HasPrinted l before after) one.0 j.printed)
    ]

pub legal_logs_check : LegalLogsCheck
legal_logs_check args path wide network left before code after bytes is does quiet told legal =
    elim (check_runs_complete args path wide network left before code after is does quiet) [
      | inl five ↦ inl five
      | inr j ↦
          let right = legal_right bytes j.line code legal (verdict_told j.given (bytes_at before.files path) bytes j.line code told j.told j.whole) in
          inr (right.1, subst (λ (l : List ℕ). HasPrinted l before after) right.0 j.printed)
    ]
