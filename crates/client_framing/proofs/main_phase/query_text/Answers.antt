use Rattle.std.proofs.Common.{◌≡◌, ℕ, List, length, ap, ◌∙◌, ◌==◌, true, false}
use Rattle.client_framing.proofs.Zeros.{no_text_after}
use Rattle.client_framing.proofs.main_phase.query_text.Goals as goal

pub returns-else-is_empty-clause-none : goal.returns-else-is_empty-clause-none
returns-else-is_empty-clause-none c = λ _. no_text_after c.args.body.now c.in_ok-text.text.now c.in_ok-text.after.now c.in_ok-text.ensures.some c.in_ok-text.ensures.no_zero
    (λ e. let f : false ≡ true = c.if-is_empty.ensures ∙ ap (λ (x : List ℕ). length x == 0) e in cc)
