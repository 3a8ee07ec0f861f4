use Rattle.std.proofs.Common.{◌<◌, length, sym, ◌∙◌, arith}
use Rattle.std.proofs.lemmas.Bool.{false≢true}
use Rattle.history_core.proofs.Prefixes.{sound_of}
use Rattle.axiom_cc.proofs.Marking.{below_mark, below_skip, below_whole}
use Rattle.axiom_cc.proofs.past.mark_predecessors.Goals as goal
use Rattle.axiom_cc.proofs.past.mark_predecessors.Goals.{then-precedes, else-precedes}

pub loop-first-preserved : goal.loop-first-preserved
loop-first-preserved c =
    let number = c.begun-first-end.ensures.number in
    let whole = c.requires.size in
    let size = c.loop-first.invariant.size in
    let small = c.loop-first-test.true in
    let within : c.loop-first.first < length c.loop-first.marks.items = omega arith in
    elim c.if-precedes.branch [
      | then-precedes w ↦
          rw w.marks-is (below_mark c.args.history.now.events c.args.second c.loop-first.first c.args.marks.now.items c.loop-first.marks.items within
          (c.precedes.ensures.0 w.if-precedes.true) c.loop-first.invariant)
      | else-precedes w ↦
          rw w.marks-is (below_skip c.args.history.now.events c.args.second c.loop-first.first c.args.marks.now.items c.loop-first.marks.items
          (λ is. false≢true (sym w.if-precedes.false ∙ c.precedes.ensures.1 is)) c.loop-first.invariant)
    ]

pub returns : goal.returns
returns c =
    let number = c.begun-first-end.ensures.number in
    below_whole c.args.history.now.events c.args.second c.loop-first.first c.args.marks.now.items c.loop-first.marks.items
    (sound_of c.args.history.now.initial c.args.history.now.events c.events-events.ensures.formed.formed) (omega arith) c.loop-first.invariant
