-- What is left to show of `has_user`.
use Rattle.std.proofs.Common.{◌≡◌, ◌<◌, length, arith, refl, sym, ◌∙◌, true, false}
use Rattle.session_core.proofs.LastUser.{user_none, past_other, past_user, full_same}
use Rattle.session_core.proofs.user.has_user.Goals as goal
use Rattle.session_core.proofs.user.has_user.Goals.{then-is_user, else-is_user}

pub loop-name-init : goal.loop-name-init
loop-name-init c = user_none _ refl

pub loop-name-preserved : goal.loop-name-preserved
loop-name-preserved c =
    let lt : c.loop-name.name-index < length c.args.pairs.now = omega arith in
    elim c.if-is_user.branch [
      | then-is_user w ↦
          past_user c.args.pairs.now c.loop-name.name-index c.loop-name-item.result c.if-is_user.has lt c.loop-name-item.is
          (sym c.as_slice.ensures ∙ c.is_user.ensures.0 w.if-is_user.true)
          (full_same c.if-is_user.has w.is_full-has.result c.loop-name-item.result.1 w.as_slice-then-is_user.result.now w.has-is
          w.as_slice-then-is_user.ensures w.is_full-has.ensures)
      | else-is_user w ↦
          rw w.has-is (past_other c.args.pairs.now c.loop-name.name-index c.loop-name-item.result c.loop-name.has lt c.loop-name-item.is
          (λ e. let t : false ≡ true = sym w.if-is_user.false ∙ c.is_user.ensures.1 (c.as_slice.ensures ∙ e) in cc) c.loop-name.invariant)
    ]
