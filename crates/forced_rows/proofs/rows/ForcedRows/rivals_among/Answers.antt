use Rattle.std.proofs.Common.{length, arith}
use Rattle.forced_rows.proofs.Counting.{counted_all}
use Rattle.forced_rows.proofs.rows.ForcedRows.rivals_among.Goals as goal

pub counted-requires-clause-writers : goal.counted-requires-clause-writers
counted-requires-clause-writers c = λ n member. let wrote = c.requires.writers.wrote n member in (wrote.0, wrote.1)

pub returns : goal.returns
returns c =
    let writers = c.args.writers.now in
    counted_all c.args.sight c.args.history.now.events c.args.reader c.args.cell.now c.args.except writers (length writers) c.in_ok-numbers.numbers.items
    (omega arith) c.requires.writers c.in_ok-numbers.ensures
