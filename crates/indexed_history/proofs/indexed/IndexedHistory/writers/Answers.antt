use Rattle.std.proofs.Common.{◌≤◌, List, ℕ, length, ap, sym, subst, arith}
use Rattle.history_core.specs.Chronicle.{Chronicle}
use Rattle.history_core.specs.Events.{begun}
use Rattle.indexed_history.specs.Index.{numbers_at}
use Rattle.indexed_history.specs.Writers.{ListsWriters}
use Rattle.indexed_history.proofs.Indexes.{writers_few}
use Rattle.indexed_history.proofs.indexed.IndexedHistory.writers.Goals as goal

pub returns-clause-writers : goal.returns-clause-writers
returns-clause-writers c =
    subst (λ (h : Chronicle). ListsWriters h.events c.args.cell.now c.numbers_of.result.now) c.self.view_is
    (subst (λ (ns : List ℕ). ListsWriters c.self.inside.parts.history.events c.args.cell.now ns) (sym c.numbers_of.ensures)
    (c.self.invariant.writers c.args.cell.now))

pub returns-clause-few : goal.returns-clause-few
returns-clause-few c =
    let most : length (numbers_at c.self.inside.parts.index c.args.cell.now) ≤ begun c.self.inside.parts.history.events =
    writers_few c.self.inside.parts.history.events c.args.cell.now (numbers_at c.self.inside.parts.index c.args.cell.now) (c.self.invariant.writers c.args.cell.now) in
    let same = ap (λ (xs : List ℕ). length xs) c.numbers_of.ensures in
    let small = c.begun.ensures.small in
    omega arith
