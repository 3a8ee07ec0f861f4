use Rattle.std.proofs.Common.{◌≡◌, ◌≢◌, ℕ, List, [], ◌∷◌, ◌++◌, Result, Ok, Err, refl, sym, ap, ◌∙◌, subst, map, arith}
use Rattle.std.specs.Prelude.{IfErr}
use Rattle.std.specs.Result.{IsErrAnd}
use Rattle.cell_base.specs.declared.cell.Cell.{Cell}
use Rattle.cell_base.specs.declared.value.Value.{Value}
use Rattle.cell_base.specs.declared.level.Level.{Level}
use Rattle.history_core.specs.declared.event.Event.{Event}
use Rattle.history_log.specs.declared.log_fault.LogFault.{LogFault}
use Rattle.history_log.specs.declared.log_fault.LogFault.TheVariants as faults
use Rattle.history_log.specs.declared.trace.Trace.{Trace}
use Rattle.history_log.specs.declared.version.Version.{Version}
use Rattle.history_log.specs.Cut.{cut_at, Lacks}
use Rattle.history_log.specs.Spelling.{head_line, initial_line, event_line}
use Rattle.history_log.specs.Faults.{HasFault}
use Rattle.history_log.proofs.Cuts.{cut_first}
use Rattle.history_log.proofs.ByLine.{no_feed, bad_head, whole_fault, is_log, events_not_wide, rows_not_wide}
use Rattle.history_log.proofs.OneHistory.{same_log, fault_only, error_only}
use Rattle.history_log.proofs.reading.read.Goals as goal

pub returns-in_default-clause-fault : goal.returns-in_default-clause-fault
returns-in_default-clause-fault c = λ other. (omega arith, no_feed c.args.bytes.now (c.in_default.ensures.none refl))

pub returns-in_default-head_of-clause-fault : goal.returns-in_default-head_of-clause-fault
returns-in_default-head_of-clause-fault c = λ other. (
  omega arith,
  bad_head c.args.bytes.now c.in-Some.first.now c.in-Some.rest.now c.in-Some.ensures.some c.in-Some.ensures.first (λ v l e. c.in_default-head_of.ensures (v, l) e),
)

started : (bytes first rest : List ℕ) (v : Version) (l : Level) (rows : List (Cell × Value)) (events : List Event) → bytes ≡ first ++ 10 ∷ rest → Lacks 10 first → first ≡ head_line v l → rows ≡ [] → events ≡ []
    → cut_at 10 bytes ≡ (head_line v l ∷ (map initial_line rows ++ (map (event_line v) events ++ []))) ++ cut_at 10 rest
started bytes first rest v l rows events e lacks is no_rows no_events =
    ap (cut_at 10) e ∙ cut_first 10 first rest lacks ∙ ap (λ (h : List ℕ). h ∷ cut_at 10 rest) is
    ∙ ap (λ (es : List Event). (head_line v l ∷ (map (event_line v) es ++ [])) ++ cut_at 10 rest) (sym no_events)
    ∙ ap (λ (xs : List (Cell × Value)). (head_line v l ∷ (map initial_line xs ++ (map (event_line v) events ++ []))) ++ cut_at 10 rest) (sym no_rows)

passed : (bytes : List ℕ) (r : Result Trace LogFault) (e : LogFault) → IsErrAnd r (λ d. d ≡ e) → (e ≢ faults.Memory → HasFault bytes e) → IfErr r (λ d. d ≢ faults.Memory → HasFault bytes d)
passed bytes (Ok t) e is has = tt
passed bytes (Err d) e is has = λ other. subst (λ (x : LogFault). HasFault bytes x) (sym is) (has (λ m. other (is ∙ m)))

pub returns-in_err-read_lines-clause-fault : goal.returns-in_err-read_lines-clause-fault
returns-in_err-read_lines-clause-fault c = passed c.args.bytes.now _ _ c.from_residual.ensures.1 (λ other.
    whole_fault c.args.bytes.now _ _ (omega arith)
    (started c.args.bytes.now c.in-Some.first.now c.in-Some.rest.now c.in-Some-head_of.version c.in-Some-head_of.level c.new.result c.new-2.result
    c.in-Some.ensures.some c.in-Some.ensures.first c.in-Some-head_of.ensures c.new.ensures c.new-2.ensures)
    (c.in_err-read_lines.ensures.fault other))

pub returns-clause-found : goal.returns-clause-found
returns-clause-found c = (
  c.read_lines.new.draft.version,
  is_log c.read_lines.new.draft c.in_ok-read_lines.ensures.right c.in_ok-read_lines.ensures.done c.args.bytes.now
      (started c.args.bytes.now c.in-Some.first.now c.in-Some.rest.now c.in-Some-head_of.version c.in-Some-head_of.level c.new.result c.new-2.result
      c.in-Some.ensures.some c.in-Some.ensures.first c.in-Some-head_of.ensures c.new.ensures c.new-2.ensures ∙ c.in_ok-read_lines.ensures.said),
)

pub returns-clause-no_wide : goal.returns-clause-no_wide
returns-clause-no_wide c = (
  events_not_wide c.read_lines.new.draft.version c.read_lines.new.draft.trace.level c.read_lines.new.draft.trace.events c.in_ok-read_lines.ensures.right.events,
  rows_not_wide c.read_lines.new.draft.version c.read_lines.new.draft.trace.initial c.in_ok-read_lines.ensures.right.initial,
)

pub returns-in_default-clause-only : goal.returns-in_default-clause-only
returns-in_default-clause-only c = λ v t log within. (tt, fault_only c.args.bytes.now faults.Cut (returns-in_default-clause-fault c) v t log within)

pub returns-in_default-head_of-clause-only : goal.returns-in_default-head_of-clause-only
returns-in_default-head_of-clause-only c = λ v t log within. (tt, fault_only c.args.bytes.now faults.Version (returns-in_default-head_of-clause-fault c) v t log within)

pub returns-in_err-read_lines-clause-only : goal.returns-in_err-read_lines-clause-only
returns-in_err-read_lines-clause-only c = error_only c.args.bytes.now _ _ c.from_residual.ensures.1 (returns-in_err-read_lines-clause-fault c)

pub returns-clause-only : goal.returns-clause-only
returns-clause-only c = λ v t log within. ((same_log (returns-clause-found c).0 v c.read_lines.new.draft.trace t c.args.bytes.now (returns-clause-found c).1 log).1, tt)
