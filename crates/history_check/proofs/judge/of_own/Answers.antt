use Rattle.std.proofs.Common.{sym, ◌∙◌}
use Rattle.std.proofs.lemmas.Bool.{false≢true}
use Rattle.history_check.proofs.Verdicts.{own_right, own_own_broken, own_value_broken}
use Rattle.history_check.proofs.judge.of_own.Goals as goal

pub returns-then-not-wrote_itself : goal.returns-then-not-wrote_itself
returns-then-not-wrote_itself c = λ initial.
    own_own_broken initial c.args.before.now c.args.session c.args.cell.now c.args.value.now c.requires.shape (λ wrote. false≢true (sym c.if-not-wrote_itself.true ∙ c.wrote_itself.ensures.1 wrote))

pub returns-then-not-gives_own_value : goal.returns-then-not-gives_own_value
returns-then-not-gives_own_value c = λ initial.
    own_value_broken initial c.args.before.now c.args.session c.args.cell.now c.args.value.now c.requires.shape (c.wrote_itself.ensures.0 c.if-not-wrote_itself.false) (λ gives. false≢true (sym c.if-not-gives_own_value.true ∙ c.gives_own_value.ensures.1 gives))

pub returns : goal.returns
returns c = λ initial. own_right initial c.args.before.now c.args.session c.args.cell.now c.args.value.now c.requires.shape (c.wrote_itself.ensures.0 c.if-not-wrote_itself.false) (c.gives_own_value.ensures.0 c.if-not-gives_own_value.false)
