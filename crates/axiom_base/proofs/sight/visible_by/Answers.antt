use Rattle.std.proofs.Common.{sym, ◌∙◌, arith}
use Rattle.std.proofs.lemmas.Bool.{false≢true}
use Rattle.axiom_base.specs.Sights.{Sees}
use Rattle.axiom_base.proofs.Gathering.{all_push, all_skip, all_whole}
use Rattle.axiom_base.proofs.Views.{seen_within}
use Rattle.axiom_base.proofs.sight.visible_by.Goals as goal
use Rattle.axiom_base.proofs.sight.visible_by.Goals.{then-sees+in_ok-push, else-sees}

pub loop-writer-preserved : goal.loop-writer-preserved
loop-writer-preserved c =
    let sees = Sees c.args.sight.now.since.items c.args.number in
    elim c.if-sees.branch [
      | then-sees+in_ok-push w ↦
          rw w.writers-is (rw w.in_ok-push.ensures.items
          (all_push sees c.loop-writer.writer c.loop-writer.writers.items (c.sees.ensures.0 w.if-sees.true) c.loop-writer.invariant))
      | else-sees w ↦
          rw w.writers-is (all_skip sees c.loop-writer.writer c.loop-writer.writers.items
          (λ seen. false≢true (sym w.if-sees.false ∙ c.sees.ensures.1 seen)) c.loop-writer.invariant)
    ]

pub returns : goal.returns
returns c =
    let number = c.begun-writer-end.ensures.number in
    let size = c.requires in
    all_whole (Sees c.args.sight.now.since.items c.args.number) c.loop-writer.writer c.loop-writer.writers.items
    (λ k sees. let h = seen_within c.args.sight.now.since.items c.args.number k sees in omega arith) c.loop-writer.invariant
