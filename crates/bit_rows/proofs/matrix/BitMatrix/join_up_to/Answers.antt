use Rattle.std.proofs.Common.{◌∷◌, ℕ, List, ap, arith}
use Rattle.bit_rows.specs.Matrix.{row_at}
use Rattle.bit_rows.specs.Lines.{rows_of}
use Rattle.bit_rows.proofs.RowLines.{number_stays}
use Rattle.bit_rows.proofs.Shown.{line_joins_shown, row_shown}
use Rattle.bit_rows.proofs.matrix.BitMatrix.join_up_to.Goals as goal

pub invariant_of-self : goal.invariant_of-self
invariant_of-self c =
    let within = c.self.invariant.1 in
    let same =
    number_stays c.args.target (c.args.number ∷ row_at (rows_of c.self.inside.lines) c.args.number) c.self.inside.lines c.join_up_to.new.self
    c.join_up_to.ensures in
    (c.join_up_to.ensures.holds, omega arith)

pub returns : goal.returns
returns c =
    line_joins_shown c.args.target c.self.inside.rows (c.args.number ∷ row_at (rows_of c.self.inside.lines) c.args.number)
    (c.args.number ∷ row_at c.args.self.now c.args.number) c.self.inside.lines c.join_up_to.new.self c.args.self.now c.self.view_is
    c.self.invariant.1 c.requires.target
    (ap (λ (r : List ℕ). c.args.number ∷ r)
    (row_shown c.self.inside.lines c.self.inside.rows c.args.self.now c.args.number c.self.view_is c.self.invariant.1 c.requires.number))
    c.join_up_to.ensures
