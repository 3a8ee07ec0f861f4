use Rattle.std.proofs.Common.{◌≡◌, ◌≢◌, ℕ, ◌+◌, List, [], ◌∷◌, ◌++◌, Result, Ok, Err, refl, sym, ap, ◌∙◌, subst, arith}
use Rattle.std.specs.Prelude.{OnOk, IfErr, IsErrOf}
use Rattle.history_log.specs.declared.log_fault.LogFault.{LogFault}
use Rattle.history_log.specs.declared.log_fault.LogFault.TheVariants as faults
use Rattle.history_log.specs.declared.misread.Misread.{Misread}
use Rattle.history_log.specs.declared.misread.Misread.TheVariants.{Form}
use Rattle.history_log.specs.declared.draft.Place.TheVariants.{Done}
use Rattle.history_log.specs.Cut.{cut_at}
use Rattle.history_log.specs.Draft.{said}
use Rattle.history_log.specs.Faults.{IsCutShort, HasLineFault}
use Rattle.history_log.proofs.ByLine.{step_parts, step_count, step_room, line_parts, last_parts, bad_line}
use Rattle.history_log.proofs.reading.read_lines.Goals as goal

err_form : (m : Misread) → m ≡ Form → IsErrOf {T = Unit {0}} (Err m) Form
err_form m e = ap (λ (x : Misread). Err x) e

pub take_leading-requires : goal.take_leading-requires
take_leading-requires c = record {
  right = c.in-Ok.ensures.right;
  cut = refl;
  count = step_count (said c.loop-line.draft) (said c.take_line.new.draft) c.in-Some.line.now c.loop-line.number c.loop-line.invariant.2 c.in-Ok.ensures.said;
  room = (step_room c.loop-line.rest.now c.in-Some.line.now c.in-Some.after.now c.loop-line.number c.in-Some.ensures.some c.loop-line.invariant.3).0;
}

pub loop-line-preserved : goal.loop-line-preserved
loop-line-preserved c =
    let read = c.in_ok-last-in-Ok.ensures.read in (
      read.right,
      step_parts (said c.args.draft.now ++ cut_at 10 c.args.text.now) (said c.loop-line.draft) (said c.take_line.new.draft) c.loop-line.rest.now c.in-Some.line.now c.in-Some.after.now
          c.loop-line.invariant.1 c.in-Some.ensures.some c.in-Some.ensures.first c.in-Ok.ensures.said ∙ read.cut,
      read.count,
      read.room,
    )

pub loop-line-smaller : goal.loop-line-smaller
loop-line-smaller c =
    let less = (step_room c.loop-line.rest.now c.in-Some.line.now c.in-Some.after.now c.loop-line.number c.in-Some.ensures.some c.loop-line.invariant.3).1 in
    omega (arith, less, c.in_ok-last-in-Ok.ensures.shorter)

pub returns-in-Err-Form-clause-fault : goal.returns-in-Err-Form-clause-fault
returns-in-Err-Form-clause-fault c = λ other.
    bad_line c.loop-line.draft c.loop-line.invariant.0 (said c.args.draft.now ++ cut_at 10 c.args.text.now) c.in-Some.line.now c.in-Some.after.now (c.loop-line.number + 1)
    (line_parts (said c.args.draft.now ++ cut_at 10 c.args.text.now) (said c.loop-line.draft) c.loop-line.rest.now c.in-Some.line.now c.in-Some.after.now c.loop-line.invariant.1 c.in-Some.ensures.some c.in-Some.ensures.first)
    (ap (λ (n : ℕ). n + 1) c.loop-line.invariant.2) (c.in-Err-Form.ensures.form (err_form c.in-Err-Form.field-0 c.in-Err-Form.field-0-is))

on_finish : (P : Type 0) (r : Result (Unit {0}) LogFault) (parts whole : List (List ℕ)) (rest : List ℕ) → OnOk r (P × (rest ≡ [])) → parts ≡ whole ++ rest ∷ [] → OnOk r (parts ≡ whole ++ [] ∷ [])
on_finish P (Ok u) parts whole rest done e = e ∙ ap (λ (z : List ℕ). whole ++ z ∷ []) done.1
on_finish P (Err f) parts whole rest done e = tt

finish_fault : (r : Result (Unit {0}) LogFault) (parts whole : List (List ℕ)) (rest : List ℕ) → IfErr r (λ e. (e ≡ faults.Cut) × IsCutShort (whole ++ rest ∷ [])) → parts ≡ whole ++ rest ∷ []
    → IfErr r (λ e. e ≢ faults.Memory → HasLineFault parts e)
finish_fault (Ok u) parts whole rest fault e = tt
finish_fault (Err f) parts whole rest fault e = λ other. subst (λ (x : LogFault). HasLineFault parts x) (sym fault.0) (subst (λ (ps : List (List ℕ)). IsCutShort ps) (sym e) fault.1)

pub returns-clause-said : goal.returns-clause-said
returns-clause-said c = on_finish (c.loop-line.draft.place ≡ Done) c.finish.result (said c.args.draft.now ++ cut_at 10 c.args.text.now) (said c.loop-line.draft) c.loop-line.rest.now c.finish.ensures.done
    (last_parts (said c.args.draft.now ++ cut_at 10 c.args.text.now) (said c.loop-line.draft) c.loop-line.rest.now c.loop-line.invariant.1 (c.in_default.ensures.none refl))

pub returns-clause-fault : goal.returns-clause-fault
returns-clause-fault c = finish_fault c.finish.result (said c.args.draft.now ++ cut_at 10 c.args.text.now) (said c.loop-line.draft) c.loop-line.rest.now c.finish.ensures.fault
    (last_parts (said c.args.draft.now ++ cut_at 10 c.args.text.now) (said c.loop-line.draft) c.loop-line.rest.now c.loop-line.invariant.1 (c.in_default.ensures.none refl))
