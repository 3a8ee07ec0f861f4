use Rattle.std.proofs.Common.{List, ℕ, sym, subst}
use Rattle.indexed_history.specs.Index.{GainsNumber}
use Rattle.indexed_history.proofs.Cells.{gains_at, gains_one}
use Rattle.cell_writers.specs.Writers.{numbers_at}
use Rattle.cell_writers.proofs.Noted.{index_of}
use Rattle.cell_writers.proofs.writers.start_list.Goals as goal

pub returns-clause-ok : goal.returns-clause-ok
returns-clause-ok c =
    gains_at (index_of c.args.writers.now) (record { alloc = c.args.writers.now.alloc; lists = c.insert.new.self }) c.in_ok-key.key c.args.cell.now
    c.in_ok-numbers.numbers c.in_ok-key.ensures c.in_ok-insert.ensures.updates.0 c.args.number
    (subst (λ (ns : List ℕ). GainsNumber (numbers_at c.args.writers.now c.args.cell.now) c.args.number ns) (sym c.in_ok-numbers.ensures)
    (gains_one (numbers_at c.args.writers.now c.args.cell.now) c.args.number c.requires.empty))
