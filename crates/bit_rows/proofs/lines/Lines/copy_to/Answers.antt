use Rattle.std.proofs.Common.{◌∙◌, sym}
use Rattle.bit_rows.specs.declared.line.Line.TheVariants.{InRun}
use Rattle.bit_rows.proofs.RowLines.{row_is, run_below}
use Rattle.bit_rows.proofs.lines.Lines.copy_to.Goals as goal

pub copy_run-requires : goal.copy_run-requires
copy_run-requires c = run_below c.args.self.now c.args.number c.in-InRun.run' c.requires.holds (sym c.line.ensures ∙ c.in-InRun.is)

pub returns-in-InRun : goal.returns-in-InRun
returns-in-InRun c =
    c.copy_run.ensures ∙ sym (row_is c.args.self.now c.args.number (InRun c.in-InRun.run') (sym c.line.ensures ∙ c.in-InRun.is))

pub returns-in-InWords : goal.returns-in-InWords
returns-in-InWords c = c.copy_words.ensures ∙ c.words.ensures.members
