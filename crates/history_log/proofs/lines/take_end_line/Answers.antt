use Rattle.std.proofs.Common.{◌≡◌, Bool, true, false}
use Rattle.history_log.proofs.Added.{end_added}
use Rattle.history_log.proofs.GoesOn.{no_other_end}
use Rattle.history_log.proofs.lines.take_end_line.Goals as goal

apart : (b : Bool) → b ≡ false → b ≡ true → ⊥
apart b e f = cc

pub returns-then-is_end-clause-said : goal.returns-then-is_end-clause-said
returns-then-is_end-clause-said c = (end_added c.args.draft.now c.args.line.now c.requires.right c.requires.place (c.is_end.ensures.0 c.if-is_end.true)).1

pub returns-else-is_end-clause-form : goal.returns-else-is_end-clause-form
returns-else-is_end-clause-form c = λ err g. no_other_end c.args.draft.now c.requires.right c.requires.place c.args.line.now (λ e. apart _ c.if-is_end.false (c.is_end.ensures.1 e)) g
