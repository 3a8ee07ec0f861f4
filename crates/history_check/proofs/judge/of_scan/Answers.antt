use Rattle.std.proofs.Common.{sym, ◌∙◌}
use Rattle.std.proofs.lemmas.Bool.{false≢true}
use Rattle.history_check.proofs.Verdicts.{scan_right, scan_keys_broken}
use Rattle.history_check.proofs.judge.of_scan.Goals as goal

pub returns-then-lists : goal.returns-then-lists
returns-then-lists c = scan_right c.args.initial.now c.args.before.now c.args.session c.args.table c.args.keys.now c.requires.shape (c.in_ok-lists.ensures.0 c.if-lists.true)

pub returns : goal.returns
returns c =
    scan_keys_broken c.args.initial.now c.args.before.now c.args.session c.args.table c.args.keys.now c.requires.shape
    (λ lists. false≢true (sym c.if-lists.false ∙ c.in_ok-lists.ensures.1 lists))
