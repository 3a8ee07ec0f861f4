use Rattle.std.proofs.Common.{arith}
use Rattle.cell_writers.proofs.Last.{last_before, none_before}
use Rattle.cell_writers.proofs.numbers.before.Goals as goal

pub returns-then-at-eq0-clause-none : goal.returns-then-at-eq0-clause-none
returns-then-at-eq0-clause-none c = none_before c.args.numbers.now c.args._limit c.args.at c.if-at-eq0.true c.requires.place

pub returns-clause-some : goal.returns-clause-some
returns-clause-some c = last_before c.args.numbers.now c.args._limit c.args.at c.requires.ascending c.requires.place (omega arith)
