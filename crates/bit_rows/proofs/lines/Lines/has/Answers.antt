use Rattle.std.proofs.Common.{◌↔◌, ◌∙◌, ℕ, List, subst, sym}
use Rattle.std.specs.Prelude.{IsTrue}
use Rattle.std.specs.List.{Contains}
use Rattle.bit_rows.specs.declared.line.Line.TheVariants.{InRun}
use Rattle.bit_rows.proofs.RowLines.{row_is}
use Rattle.bit_rows.proofs.Runs.{in_numbers}
use Rattle.bit_rows.proofs.lines.Lines.has.Goals as goal

pub returns-in-InRun : goal.returns-in-InRun
returns-in-InRun c =
    let run = c.in-InRun.run' in
    let test = c.has.ensures in
    let numbers = in_numbers run.first run.end c.args.bit in
    subst (λ (r : List ℕ). IsTrue c.has.result ↔ Contains r c.args.bit)
    (sym (row_is c.args.self.now c.args.number (InRun run) (sym c.line.ensures ∙ c.in-InRun.is)))
    (λ is. numbers.1 (test.0 is), λ member. test.1 (numbers.0 member))
