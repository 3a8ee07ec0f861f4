use Rattle.std.proofs.Common.{Some, ap, sym, ◌∙◌, ℕ}
use Rattle.history_check.proofs.Verdicts.{show_right, show_number_broken}
use Rattle.history_check.proofs.judge.of_show.Goals as goal

pub returns-then-number-expected : goal.returns-then-number-expected
returns-then-number-expected c = λ initial. show_right initial c.args.before.now c.args.session c.args.number c.requires.shape (c.if-number-expected.true ∙ c.next_number-expected.ensures)

pub returns : goal.returns
returns c = λ initial.
    show_number_broken initial c.args.before.now c.args.session c.args.number c.requires.shape
    (λ same. c.if-number-expected.false (same ∙ sym c.next_number-expected.ensures)) c.next_number-expected.result (ap (λ (n : ℕ). Some n) (sym c.next_number-expected.ensures))
