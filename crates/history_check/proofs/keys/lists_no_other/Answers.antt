use Rattle.std.proofs.Common.{length, refl, sym, ◌∙◌, arith}
use Rattle.std.proofs.lemmas.Bool.{false≢true}
use Rattle.std.proofs.lemmas.Option.{slice_get_read}
use Rattle.history_check.proofs.KeyLemmas.{others_step, others_all}
use Rattle.history_check.proofs.keys.lists_no_other.Goals as goal

pub loop-key-init : goal.loop-key-init
loop-key-init c = λ k key under. absurd (omega arith)

pub loop-key-preserved : goal.loop-key-preserved
loop-key-preserved c =
    others_step c.args.initial.now c.args.before.now c.args.session c.args.table c.args.keys.now c.loop-key.key-index c.key-item.result (slice_get_read c.args.keys.now (length c.args.keys.now) c.loop-key.key-index c.key-item.result refl c.loop-key-test.true c.key-item.is) (c.in_ok-is_to_list.ensures.0 c.if-not-branch.false) c.loop-key.invariant

pub returns-then-not-branch : goal.returns-then-not-branch
returns-then-not-branch c = (
  λ h. absurd (false≢true h),
  λ lists. absurd (false≢true (sym c.if-not-branch.true ∙ c.in_ok-is_to_list.ensures.1 (lists c.loop-key.key-index c.key-item.result (slice_get_read c.args.keys.now (length c.args.keys.now) c.loop-key.key-index c.key-item.result refl c.loop-key-test.true c.key-item.is)))),
)

pub returns : goal.returns
returns c = (λ h. others_all c.args.initial.now c.args.before.now c.args.session c.args.table c.args.keys.now c.loop-key.key-index c.loop-key-test.false c.loop-key.invariant, λ lists. refl)
