use Rattle.std.proofs.Common.{List, ℕ, Option, sym, subst, refl}
use Rattle.std.specs.Option.{IsSome}
use Rattle.std.specs.List.Sorted.{IsStrictlyIncreasing}
use Rattle.indexed_history.specs.Index.{LosesNumber}
use Rattle.indexed_history.proofs.Cells.{found_at, loses_at}
use Rattle.indexed_history.proofs.index.forget_writer.Goals as goal

pub remove-requires : goal.remove-requires
remove-requires c =
    subst IsStrictlyIncreasing (found_at c.args.index.now c.args.cell.now c.in-Some.numbers.now c.in-Some.ensures.value) (c.requires.ascending c.args.cell.now)

pub returns-in-Some-clause-loses : goal.returns-in-Some-clause-loses
returns-in-Some-clause-loses c =
    loses_at c.args.index.now
    (record { alloc = c.args.index.now.alloc; lists = c.get_mut.follows.lender c.remove.new.self }) c.args.cell.now c.args.cell.now c.remove.new.self refl
    ((c.get_mut.follows.holds c.remove.new.self).3 (subst (λ (o : Option (List ℕ)). IsSome o) c.in-Some.ensures.value refl)).0 c.args.number
    (subst (λ (ns : List ℕ). LosesNumber ns c.args.number c.remove.new.self)
    (sym (found_at c.args.index.now c.args.cell.now c.in-Some.numbers.now c.in-Some.ensures.value)) c.remove.ensures.loses)
