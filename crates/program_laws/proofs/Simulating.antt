-- What `sim` answers where no fault is counted.
use Rattle.std.proofs.Common.{◌≡◌, ◌≤◌, ◌⊎◌, inl, inr, ℕ, List, Option, Some, None, sym, ◌∙◌, ap, subst}
use Rattle.std.specs.Prelude.{IsSomeAnd}
use Rattle.std.proofs.lemmas.Option.{none-some}
use Rattle.cell_base.specs.declared.level.Level.{Level}
use Rattle.link_traits.specs.Host.{Hosted}
use Rattle.history_core.specs.Chronicle.{Chronicle}
use Rattle.host_calls.specs.Printing.{Printed}
use Rattle.host_calls.specs.declared.writing.WriteFault.{WriteFault}
use Rattle.host_calls.specs.declared.writing.WriteFault.TheVariants as writes
use Rattle.log_file.specs.Logging.{Logs, status_after}
use Rattle.sim_command.specs.Simulations.{Told}
use Rattle.command_line.specs.declared.reading.CommandLine.{CommandLine}
use Rattle.command_line.specs.declared.reading.CommandLine.TheVariants as lines
use Rattle.command_line.specs.declared.sim.SimPlan.{SimPlan}
use Rattle.command_line.specs.Numbers.{IsUpTo}
use Rattle.command_line.proofs.OneCommand.{one_command}
use Rattle.monkey_server.specs.Program.{Obeys}
use Rattle.program_laws.proofs.Playing.{ends}
use Rattle.program_laws.specs.Checking.{HasPrinted}
use Rattle.program_laws.specs.Simulating.{SimsUndisturbed, SimulatesWhole, SimulationsAreComplete, SimRunsAreComplete}
use Rattle.program_laws.proofs.Counting.{one_more}
use Rattle.program_laws.proofs.Checking.{printed_whole}

-- the log was written whole, where one was asked for, and so was the line; or memory ran out for the log
record WasTold (log : Option (List ℕ)) (history : Chronicle) (line : List ℕ) (before : Hosted) (code : ℕ) (after : Hosted) : Type 0 where
  zero : code ≡ 0
  between : Hosted
  logged : Logs log history None before between
  printed : HasPrinted line before after

ended : (log : Option (List ℕ)) (fault : Option WriteFault) (history : Chronicle) (line : List ℕ) (before between : Hosted) (code printed_code : ℕ) (after : Hosted) →
    Logs log history fault before between → Printed line 0 between printed_code after → code ≡ status_after fault printed_code → SimsUndisturbed before after →
    WasTold log history line before code after ⊎ (code ≡ 5)
ended None None history line before between code printed_code after logs p is quiet =
    let printed = printed_whole before between after line 0 printed_code (ap (λ (h : Hosted). h.out) logs.1) p quiet.prints in
    inl (record { zero = is ∙ printed.0; between = between; logged = logs; printed = printed.1 })
ended None (Some fault) history line before between code printed_code after logs p is quiet = absurd (none-some fault (sym logs.0))
ended (Some path) None history line before between code printed_code after logs p is quiet =
    let printed = printed_whole before between after line 0 printed_code (ap (λ (h : Hosted). h.out) logs.written.made.after_is) p quiet.prints in
    inl (record { zero = is ∙ printed.0; between = between; logged = logs; printed = printed.1 })
ended (Some path) (Some writes.Make) history line before between code printed_code after logs p is quiet =
    absurd (quiet.makes (one_more before.faults.make_file after.faults.make_file
    (ap (λ (h : Hosted). h.faults.make_file) p.after_is ∙ ap (λ (h : Hosted). h.faults.make_file) logs.unwritten)))
ended (Some path) (Some writes.Write) history line before between code printed_code after logs p is quiet =
    let w = logs.unwritten in
    absurd (quiet.writes path w.given w.returned
    (ap (λ (h : Hosted). h.calls) p.after_is ∙ ap (λ (h : Hosted). h.calls) w.made.after_is)
    (ap (λ (h : Hosted). h.back) p.after_is ∙ ap (λ (h : Hosted). h.back) w.made.after_is) w.rose)
ended (Some path) (Some writes.Memory) history line before between code printed_code after logs p is quiet = inr is

told : (level : Level) (seed sessions queries : ℕ) (log : Option (List ℕ)) (before : Hosted) (code : ℕ) (after : Hosted) → Told level seed sessions queries log before code after →
    SimsUndisturbed before after → ((code ≡ 0) × SimulatesWhole level seed sessions queries log before after) ⊎ (code ≡ 5)
told level seed sessions queries log before code after t quiet =
    let all = t.told in
    elim (ended log all.fault t.history t.line before all.between code all.printed_code after all.logs all.printed all.code_is quiet) [
      | inl w ↦
          inl (
            w.zero,
            record {
              history = t.history;
              simulation = t.simulation;
              line = t.line;
              summary = t.summary;
              between = w.between;
              logged = w.logged;
              printed = w.printed;
            },
          )
      | inr five ↦ inr five
    ]

pub sims_complete : SimulationsAreComplete
sims_complete level seed sessions queries log before code after few_sessions few_queries (inl lacks) quiet = inr lacks.0
sims_complete level seed sessions queries log before code after few_sessions few_queries (inr (inl cut)) quiet =
    absurd (ends level seed sessions queries few_sessions few_queries cut.2)
sims_complete level seed sessions queries log before code after few_sessions few_queries (inr (inr t)) quiet =
    told level seed sessions queries log before code after t quiet

-- a number of the command line is in its range
pub within : (most n : ℕ) (text : Option (List ℕ)) → IsSomeAnd text (λ digits. IsUpTo most digits n) → n ≤ most
within most n None is = absurd is
within most n (Some digits) is = is.within

pub sim_runs_complete : SimRunsAreComplete
sim_runs_complete args level seed sessions queries log network left before code after is (inl (line, line_is, obeys)) quiet =
    let plan : SimPlan = record { level = level; seed = seed; sessions = sessions; queries = queries; log = log } in
    let same : line ≡ lines.Sim plan = one_command args line (lines.Sim plan) line_is is in
    sims_complete level seed sessions queries log before code after
    (within 64 sessions _ is.2.sessions_are) (within 200 queries _ is.2.queries_are)
    (subst (λ (l : CommandLine). Obeys l network before code left after) same obeys).0 quiet
sim_runs_complete args level seed sessions queries log network left before code after is (inr untouched) quiet = inr untouched.0.0
