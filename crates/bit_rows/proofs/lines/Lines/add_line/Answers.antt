use Rattle.std.proofs.Common.{◌∙◌, ℕ, List, subst, sym}
use Rattle.bit_rows.specs.Lines.{JoinsLine}
use Rattle.bit_rows.specs.declared.line.Line.TheVariants.{InRun}
use Rattle.bit_rows.proofs.RowLines.{row_is}
use Rattle.bit_rows.proofs.lines.Lines.add_line.Goals as goal

pub add_run-requires-clause-within : goal.add_run-requires-clause-within
add_run-requires-clause-within c n inside =
    c.requires.holds.below c.args.source c.in-InRun.run' n (sym c.line.ensures ∙ c.in-InRun.is) inside

pub returns-in-InRun : goal.returns-in-InRun
returns-in-InRun c =
    subst (λ (r : List ℕ). JoinsLine c.args.target r c.args.self.now c.add_run.new.self)
    (sym (row_is c.args.self.now c.args.source (InRun c.in-InRun.run') (sym c.line.ensures ∙ c.in-InRun.is))) c.add_run.ensures
