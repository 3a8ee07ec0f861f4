-- An assigned column is marked where the expression mentions it.
use Rattle.std.proofs.Common.{◌∙◌}
use Rattle.typing_rules.specs.Mentions.{mentions}
use Rattle.change_typing.proofs.Reading.{any_marked}
use Rattle.change_typing.proofs.reads.mentions_any.Goals as goal

pub returns : goal.returns
returns c =
    c.has_any.ensures
    ∙ any_marked c.args.columns c.add.new.self (λ k. mentions 0 k c.args.expr.now) c.args.set.now c.requires
    (rw c.in_ok-marks.ensures at c.add.ensures)
