use Rattle.std.proofs.Common.{◌∙◌, ℕ, List, subst, sym}
use Rattle.bit_rows.specs.Members.{IsUnion}
use Rattle.bit_rows.specs.declared.line.Line.TheVariants.{InRun}
use Rattle.bit_rows.proofs.RowLines.{row_is, run_below}
use Rattle.bit_rows.proofs.lines.Lines.add_to.Goals as goal

pub or_run-requires : goal.or_run-requires
or_run-requires c = run_below c.args.self.now c.args.number c.in-InRun.run' c.requires.holds (sym c.line.ensures ∙ c.in-InRun.is)

pub returns-in-InRun : goal.returns-in-InRun
returns-in-InRun c =
    subst (λ (r : List ℕ). IsUnion c.args.row.now r c.or_run.new.self)
    (sym (row_is c.args.self.now c.args.number (InRun c.in-InRun.run') (sym c.line.ensures ∙ c.in-InRun.is))) c.or_run.ensures

pub returns-in-InWords : goal.returns-in-InWords
returns-in-InWords c =
    subst (λ (r : List ℕ). IsUnion c.args.row.now r c.or_words.new.self) c.words.ensures.members c.or_words.ensures
