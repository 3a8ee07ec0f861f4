use Rattle.std.proofs.Common.{◌-◌, length, refl, sym, ◌∙◌, arith}
use Rattle.std.proofs.lemmas.Bool.{false≢true}
use Rattle.std.proofs.lemmas.Option.{slice_get_read}
use Rattle.history_check.proofs.KeyLemmas.{ascending_step, ascending_whole, ascending_broken}
use Rattle.history_check.proofs.keys.ascend.Goals as goal

pub loop-at-init : goal.loop-at-init
loop-at-init c = λ k a b under. absurd (omega arith)

pub loop-at-preserved : goal.loop-at-preserved
loop-at-preserved c =
    ascending_step c.args.keys.now c.loop-at.at (c.loop-at.at - 1) c.index-keys-at.result c.index-keys-at-in-loop-at.result (let h = c.loop-at.auto.at in omega arith)
    (slice_get_read c.args.keys.now (length c.args.keys.now) (c.loop-at.at - 1) c.index-keys-at.result refl (let h = c.loop-at-test.true in omega arith) c.index-keys-at.is)
    (slice_get_read c.args.keys.now (length c.args.keys.now) c.loop-at.at c.index-keys-at-in-loop-at.result refl c.loop-at-test.true c.index-keys-at-in-loop-at.is)
    (c.is_below.ensures.0 c.if-not-is_below.false) c.loop-at.invariant

pub returns-then-not-is_below : goal.returns-then-not-is_below
returns-then-not-is_below c = (
  λ h. absurd (false≢true h),
  λ ascending. absurd (ascending_broken c.args.keys.now c.loop-at.at (c.loop-at.at - 1) c.index-keys-at.result c.index-keys-at-in-loop-at.result (let h = c.loop-at.auto.at in omega arith)
      (slice_get_read c.args.keys.now (length c.args.keys.now) (c.loop-at.at - 1) c.index-keys-at.result refl (let h = c.loop-at-test.true in omega arith) c.index-keys-at.is)
      (slice_get_read c.args.keys.now (length c.args.keys.now) c.loop-at.at c.index-keys-at-in-loop-at.result refl c.loop-at-test.true c.index-keys-at-in-loop-at.is)
      (λ below. false≢true (sym c.if-not-is_below.true ∙ c.is_below.ensures.1 below)) ascending),
)

pub returns : goal.returns
returns c = (λ h. ascending_whole c.args.keys.now c.loop-at.at c.loop-at-test.false c.loop-at.invariant, λ ascending. refl)
