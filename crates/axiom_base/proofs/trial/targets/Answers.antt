use Rattle.std.proofs.Common.{sym, ◌∙◌, arith}
use Rattle.std.proofs.lemmas.Bool.{false≢true}
use Rattle.axiom_base.specs.Sights.{IsTarget}
use Rattle.axiom_base.proofs.Gathering.{all_push, all_skip, all_whole}
use Rattle.axiom_base.proofs.trial.targets.Goals as goal
use Rattle.axiom_base.proofs.trial.targets.Goals.{then-is_target+in_ok-push, else-is_target}

pub loop-number-preserved : goal.loop-number-preserved
loop-number-preserved c =
    elim c.if-is_target.branch [
      | then-is_target+in_ok-push w ↦
          rw w.numbers-is (rw w.in_ok-push.ensures.items
          (all_push (IsTarget c.args.history.now.events c.args.read.now.reader c.args.read.now.seen) c.loop-number.number c.loop-number.numbers.items
          (c.is_target.ensures.0 w.if-is_target.true) c.loop-number.invariant))
      | else-is_target w ↦
          rw w.numbers-is (all_skip (IsTarget c.args.history.now.events c.args.read.now.reader c.args.read.now.seen) c.loop-number.number c.loop-number.numbers.items
          (λ is. false≢true (sym w.if-is_target.false ∙ c.is_target.ensures.1 is)) c.loop-number.invariant)
    ]

pub returns : goal.returns
returns c =
    let number = c.begun-number-end.ensures.number in
    all_whole (IsTarget c.args.history.now.events c.args.read.now.reader c.args.read.now.seen) c.loop-number.number c.loop-number.numbers.items
    (λ k target. let h = target.0 in omega arith) c.loop-number.invariant
