use Rattle.std.proofs.Common.{List, ℕ, sym, subst}
use Rattle.std.specs.List.Sorted.{IsStrictlyIncreasing}
use Rattle.indexed_history.specs.Index.{LosesNumber}
use Rattle.indexed_history.proofs.Ascending.{found_ok, found_err, removed_loses, not_found, loses_none}
use Rattle.indexed_history.proofs.numbers.Numbers.remove.Goals as goal

pub returns-in-Ok-clause-loses : goal.returns-in-Ok-clause-loses
returns-in-Ok-clause-loses c =
    let rises = subst IsStrictlyIncreasing (sym c.self.view_is) c.requires in
    let at = found_ok c.self.inside.numbers.items c.as_slice.result.now c.args.number c.in-Ok.at c.binary_search.result c.as_slice.ensures.value rises
    c.binary_search.ensures.position c.in-Ok.is in
    subst (λ (xs : List ℕ). LosesNumber xs c.args.number c.remove-number.new.self.items) c.self.view_is
    (subst (λ (ys : List ℕ). LosesNumber c.self.inside.numbers.items c.args.number ys) (sym c.remove-number.ensures.items)
    (removed_loses c.self.inside.numbers.items c.in-Ok.at c.args.number rises at.0 at.1))

pub returns-in-Err-clause-loses : goal.returns-in-Err-clause-loses
returns-in-Err-clause-loses c =
    let rises = subst IsStrictlyIncreasing (sym c.self.view_is) c.requires in
    let at = found_err c.self.inside.numbers.items c.as_slice.result.now c.args.number c.in-Err.field-0 c.binary_search.result c.as_slice.ensures.value rises
    c.binary_search.ensures.position c.in-Err.is in
    subst (λ (xs : List ℕ). LosesNumber xs c.args.number xs) c.self.view_is
    (loses_none c.self.inside.numbers.items c.args.number
    (not_found c.self.inside.numbers.items c.in-Err.field-0 c.args.number at.1 at.2))
