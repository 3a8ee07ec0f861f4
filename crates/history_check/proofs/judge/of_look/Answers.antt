use Rattle.std.proofs.Common.{Some, ap, sym, ◌∙◌, ℕ}
use Rattle.history_check.proofs.Verdicts.{look_right, look_number_broken}
use Rattle.history_check.proofs.judge.of_look.Goals as goal

pub returns-then-tables-expected : goal.returns-then-tables-expected
returns-then-tables-expected c = λ initial. look_right initial c.args.before.now c.args.session c.args.tables c.requires.shape (c.if-tables-expected.true ∙ c.requires.notes.tables)

pub returns : goal.returns
returns c = λ initial.
    look_number_broken initial c.args.before.now c.args.session c.args.tables c.requires.shape
    (λ same. c.if-tables-expected.false (same ∙ sym c.requires.notes.tables)) c.args.notes.now.tables (ap (λ (n : ℕ). Some n) (sym c.requires.notes.tables))
