use Rattle.std.proofs.Common.{length, sym, ◌∙◌}
use Rattle.std.proofs.lemmas.Bool.{eqb-true}
use Rattle.right_logs.proofs.JudgeLemmas.{late_none, none_late}
use Rattle.right_logs.proofs.kept.none_is_late.Goals as goal

pub returns-then-is_empty : goal.returns-then-is_empty
returns-then-is_empty c = λ h.
    late_none c.args._places.now.at.items c.args.writers.now c.args.from (eqb-true (length c.args.writers.now) 0 (sym c.is_empty.ensures ∙ c.if-is_empty.true))

pub returns : goal.returns
returns c = λ h.
    none_late c.args._places.now.at.items c.args.pass.now.highest.items c.deref.result.now c.args.writers.now c.args.from c.requires.ascending c.requires.highest
    c.deref.ensures.value (c.stand_up_to.ensures h)
