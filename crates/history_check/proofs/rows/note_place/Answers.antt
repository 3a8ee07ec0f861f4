use Rattle.std.proofs.Common.{arith}
use Rattle.std.proofs.lemmas.Result.{on_ok_weaker}
use Rattle.history_check.proofs.RowLemmas.{gains_place}
use Rattle.history_check.proofs.rows.note_place.Goals as goal

pub returns-clause-ok : goal.returns-clause-ok
returns-clause-ok c =
    on_ok_weaker c.note_writes.result
    (λ gains. gains_place c.args.cells.now c.args.at _ c.args.places.now c.note_writes.new.writers (omega arith) gains)
    c.note_writes.ensures.ok
