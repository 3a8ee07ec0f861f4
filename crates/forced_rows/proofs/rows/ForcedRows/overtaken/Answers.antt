use Rattle.std.proofs.Common.{◌<◌, ℕ, List, arith, sym, subst}
use Rattle.std.specs.List.{Contains, All}
use Rattle.history_core.proofs.Offers.{writer_bounded}
use Rattle.forced_rows.proofs.StarLists.{all_from_contains}
use Rattle.forced_rows.specs.Sights.{AreBeforeSome}
use Rattle.forced_rows.proofs.rows.ForcedRows.overtaken.Goals as goal

pub union_of_many-requires : goal.union_of_many-requires
union_of_many-requires c =
    let size = c.requires.kept.size in
    let below = λ (n : ℕ) (member : Contains c.in_ok-seen.seen.items n).
    let h = writer_bounded c.args.history.now.events n c.args.cell.now ((c.in_ok-seen.ensures n).0 member).1 in
    let small : n < c.args.self.now.reach.size = omega arith in small
    in
    subst (λ (xs : List ℕ). All (λ m. m < c.args.self.now.reach.size) xs) (sym c.deref.ensures.value)
    (all_from_contains (λ m. m < c.args.self.now.reach.size) c.in_ok-seen.seen.items below)

pub returns : goal.returns
returns c = record {
  are = c.in_ok-seen.ensures;
  before = subst (λ (xs : List ℕ). AreBeforeSome c.args.self.now.reach.pairs xs c.in_ok-before.before) c.deref.ensures.value c.in_ok-before.ensures;
}
