use Rattle.std.proofs.Common.{List, ℕ, sym, subst}
use Rattle.std.specs.List.Sorted.{IsStrictlyIncreasing}
use Rattle.indexed_history.specs.Index.{GainsNumber}
use Rattle.indexed_history.proofs.Ascending.{inserted_gains}
use Rattle.cell_writers.specs.Writers.{IsFirstAbove}
use Rattle.cell_writers.proofs.numbers.Numbers.insert.Goals as goal

pub returns-in_ok-insert-in-Some-clause-ok : goal.returns-in_ok-insert-in-Some-clause-ok
returns-in_ok-insert-in-Some-clause-ok c =
    let rises = subst IsStrictlyIncreasing (sym c.self.view_is) c.requires in
    let at = subst (λ (xs : List ℕ). IsFirstAbove xs c.args.number c.in-Some.at) c.as_slice.ensures.value c.in-Some.ensures.some in
    subst (λ (xs : List ℕ). GainsNumber xs c.args.number c.insert.new.self.items) c.self.view_is
    (subst (λ (ys : List ℕ). GainsNumber c.self.inside.numbers.items c.args.number ys) (sym c.in_ok-insert-in-Some.ensures.items)
    (inserted_gains c.self.inside.numbers.items c.in-Some.at c.args.number rises at.within at.below at.above))
