use Rattle.std.proofs.Common.{ℕ, List, subst}
use Rattle.bit_rows.specs.Members.{IsUnion}
use Rattle.bit_rows.proofs.Shown.{row_shown}
use Rattle.bit_rows.proofs.matrix.BitMatrix.add_to.Goals as goal

pub returns : goal.returns
returns c =
    subst (λ (r : List ℕ). IsUnion c.args.row.now r c.add_to.new.row)
    (row_shown c.self.inside.lines c.self.inside.rows c.args.self.now c.args.number c.self.view_is c.self.invariant.1 c.requires)
    c.add_to.ensures
