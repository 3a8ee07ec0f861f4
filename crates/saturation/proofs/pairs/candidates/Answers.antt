use Rattle.std.proofs.Common.{sym, ◌∙◌, arith}
use Rattle.std.proofs.lemmas.Bool.{false≢true}
use Rattle.saturation.proofs.Steps.{candidates_push, candidates_skip, candidates_whole}
use Rattle.saturation.proofs.pairs.candidates.Goals as goal
use Rattle.saturation.proofs.pairs.candidates.Goals.{then-is_writer+in_ok-push, else-is_writer}

pub loop-number-preserved : goal.loop-number-preserved
loop-number-preserved c =
    elim c.if-is_writer.branch [
      | then-is_writer+in_ok-push w ↦
          rw w.numbers-is (rw w.in_ok-push.ensures.items
          (candidates_push c.args.history.now.events c.args.cell.now c.loop-number.number c.loop-number.numbers.items
          (c.is_writer.ensures.0 w.if-is_writer.true) c.loop-number.invariant))
      | else-is_writer w ↦
          rw w.numbers-is (candidates_skip c.args.history.now.events c.args.cell.now c.loop-number.number c.loop-number.numbers.items
          (λ writes. false≢true (sym w.if-is_writer.false ∙ c.is_writer.ensures.1 writes)) c.loop-number.invariant)
    ]

pub returns : goal.returns
returns c =
    let number = c.begun-number-end.ensures.number in
    candidates_whole c.args.history.now.events c.args.cell.now c.loop-number.number c.loop-number.numbers.items (omega arith) c.loop-number.invariant
