use Rattle.std.proofs.Common.{ℕ, subst, arith, inl, inr, eq-eqb}
use Rattle.std.proofs.lemmas.Bool.{eqb-true, cases_eq}
use Rattle.cycle_report.specs.Turns.{IsPassed}
use Rattle.cycle_report.proofs.TurnLemmas.{free_at_end, blocked_waits}
use Rattle.cycle_report.proofs.sorting.is_free.Goals as goal

pub returns-clause-free : goal.returns-clause-free
returns-clause-free c =
    let edges = c.args.edges.now in
    let marks = c.args.marks.now in
    let n = c.args.n in
    let turn = c.blocked_turn-turn.result in
    let passed = c.blocked_turn-turn.ensures.passed in (
      λ h. free_at_end edges marks n (c.requires.within, c.if-marks-n.false) (subst (λ (t : ℕ). IsPassed edges marks n t) (eqb-true turn 0 h) passed),
      λ free. elim (cases_eq turn 0) [
        | inl same ↦ eq-eqb turn 0 same
        | inr other ↦ absurd (blocked_waits edges marks n turn (omega arith) passed c.blocked_turn-turn.ensures.blocked free)
      ],
    )
