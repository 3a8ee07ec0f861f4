use Rattle.std.proofs.Common.{Bool, rules}
use Rattle.std.proofs.lemmas.Fn.{always_returns_same}
use Rattle.std.proofs.lemmas.List.Sorted.{ranks_by}
use Rattle.std.specs.Cmp.{IsStrictWeakOrder}
use Rattle.row_order.specs.declared.sorting.SortedRow.{SortedRow}
use Rattle.row_order.proofs.Comparing.{terms_total}
use Rattle.row_order.proofs.Laws.{row_before, sorted_is}
use Rattle.row_order.proofs.sorting.sort_rows.Goals as goal

pub returns : goal.returns
returns c =
    let lt : SortedRow → SortedRow → Bool = row_before c.args.directions.now in
    let o : IsStrictWeakOrder lt = ranks_by (terms_total c.args.directions.now) (λ (r : SortedRow). r.terms) in
    sorted_is c.args.directions.now c.args.rows.items c.sort_by.new.self.items o
    (c.in_ok-sort_by.ensures.sorted lt o (always_returns_same _ _ _ (λ a r q k. search rules)))
    (c.in_ok-sort_by.ensures.stable lt o (always_returns_same _ _ _ (λ a r q k. search rules)))
