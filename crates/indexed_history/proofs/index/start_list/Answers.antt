use Rattle.std.proofs.Common.{List, ℕ, sym, subst}
use Rattle.indexed_history.specs.Index.{numbers_at, GainsNumber}
use Rattle.indexed_history.proofs.Cells.{gains_at, gains_one}
use Rattle.indexed_history.proofs.index.start_list.Goals as goal

pub returns-clause-ok : goal.returns-clause-ok
returns-clause-ok c =
    gains_at c.args.index.now (record { alloc = c.args.index.now.alloc; lists = c.insert.new.self }) c.in_ok-key.key c.args.cell.now
    c.in_ok-numbers.numbers c.in_ok-key.ensures c.in_ok-insert.ensures.updates.0 c.args.number
    (subst (λ (ns : List ℕ). GainsNumber (numbers_at c.args.index.now c.args.cell.now) c.args.number ns) (sym c.in_ok-numbers.ensures)
    (gains_one (numbers_at c.args.index.now c.args.cell.now) c.args.number c.requires.empty))
