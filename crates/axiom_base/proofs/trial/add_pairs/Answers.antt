use Rattle.std.proofs.Common.{◌≡◌, Some, slice_get, get_or, sym, ◌∙◌}
use Rattle.std.proofs.lemmas.Option.{slice_get-get_or}
use Rattle.std.proofs.lemmas.Bool.{false≢true}
use Rattle.axiom_base.specs.Sights.{IsTrialIn}
use Rattle.axiom_base.proofs.Gathering.{row_begins, row_push, row_skip, row_ends}
use Rattle.axiom_base.proofs.trial.add_pairs.Goals as goal
use Rattle.axiom_base.proofs.trial.add_pairs.Goals.{then-is_forced+in_ok-push, else-is_forced}

pub loop-number-init : goal.loop-number-init
loop-number-init c =
    row_begins (IsTrialIn c.args.history.now.events c.args.read.now.reader c.args.read.now.seen c.args.before.now.since.items c.args.after.now.since.items)
    c.args.first c.args.seconds.now c.args.edges.now.items c.requires.gathered

pub loop-number-preserved : goal.loop-number-preserved
loop-number-preserved c =
    let at : slice_get c.args.seconds.now c.loop-number.number-index ≡ Some (get_or c.args.seconds.now c.loop-number.number-index 0) =
    slice_get-get_or c.args.seconds.now c.loop-number.number-index 0 c.loop-number-test.true in
    elim c.if-is_forced.branch [
      | then-is_forced+in_ok-push w ↦
          rw w.edges-is (rw w.in_ok-push.ensures.items
          (row_push (IsTrialIn c.args.history.now.events c.args.read.now.reader c.args.read.now.seen c.args.before.now.since.items c.args.after.now.since.items)
          c.args.first c.args.seconds.now c.loop-number.number-index (get_or c.args.seconds.now c.loop-number.number-index 0) c.loop-number.edges.items
          c.requires.ascending at (c.is_forced.ensures.0 w.if-is_forced.true) c.loop-number.invariant))
      | else-is_forced w ↦
          rw w.edges-is
          (row_skip (IsTrialIn c.args.history.now.events c.args.read.now.reader c.args.read.now.seen c.args.before.now.since.items c.args.after.now.since.items)
          c.args.first c.args.seconds.now c.loop-number.number-index (get_or c.args.seconds.now c.loop-number.number-index 0) c.loop-number.edges.items
          at (λ is. false≢true (sym w.if-is_forced.false ∙ c.is_forced.ensures.1 is)) c.loop-number.invariant)
    ]

pub returns : goal.returns
returns c =
    row_ends (IsTrialIn c.args.history.now.events c.args.read.now.reader c.args.read.now.seen c.args.before.now.since.items c.args.after.now.since.items)
    c.args.first c.args.seconds.now c.loop-number.number-index c.loop-number.edges.items c.requires.reached c.loop-number-test.false c.loop-number.invariant
