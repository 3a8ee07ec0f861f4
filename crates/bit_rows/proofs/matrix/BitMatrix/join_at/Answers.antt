use Rattle.std.proofs.Common.{arith}
use Rattle.bit_rows.specs.Members.{members}
use Rattle.bit_rows.proofs.RowLines.{number_stays}
use Rattle.bit_rows.proofs.Shown.{line_joins_shown}
use Rattle.bit_rows.proofs.matrix.BitMatrix.join_at.Goals as goal

pub invariant_of-self : goal.invariant_of-self
invariant_of-self c =
    let within = c.self.invariant.1 in
    let same = number_stays c.args.target (members c.words.result.now) c.self.inside.lines c.add_words.new.self c.add_words.ensures in
    (c.add_words.ensures.holds, omega arith)

pub returns : goal.returns
returns c =
    line_joins_shown c.args.target c.self.inside.rows (members c.words.result.now) c.args.row.now c.self.inside.lines c.add_words.new.self
    c.args.self.now c.self.view_is c.self.invariant.1 c.requires.target c.words.ensures.members c.add_words.ensures
