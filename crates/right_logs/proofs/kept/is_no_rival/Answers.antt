use Rattle.std.proofs.Common.{arith, inl, inr, sym, ◌∙◌}
use Rattle.std.proofs.lemmas.Bool.{false≢true, not-true}
use Rattle.right_logs.proofs.kept.is_no_rival.Goals as goal

pub returns-then-place_at-from : goal.returns-then-place_at-from
returns-then-place_at-from c = λ h.
    let place = c.place_at.ensures in
    let less = c.if-place_at-from.true in
    inl (omega arith)

pub returns-else-place_at-from : goal.returns-else-place_at-from
returns-else-place_at-from c = λ h. inr (λ there. false≢true (sym (not-true c.contains.result h) ∙ c.contains.ensures.1 there))
