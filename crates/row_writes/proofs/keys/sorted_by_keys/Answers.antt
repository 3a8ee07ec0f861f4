-- std's sort gives the rows in order.
use Rattle.std.proofs.Common.{◌∙◌, sym, ap, rules}
use Rattle.row_meaning.specs.Insertion.{by_keys}
use Rattle.row_meaning.proofs.Sorting.{sorted_from}
use Rattle.row_writes.proofs.InOrder.{is_row_below, row_order, by_keys_is}
use Rattle.row_writes.proofs.keys.sorted_by_keys.Goals as goal

pub returns : goal.returns
returns c =
    c.from_vec.ensures
    ∙ sorted_from is_row_below row_order c.into_vec-rows.result.items c.sort_by.new.self.items c.in_ok-sort_by.ensures.sorted c.in_ok-sort_by.ensures.stable
    (λ a r f k. search rules)
    ∙ sym (by_keys_is c.into_vec-rows.result.items) ∙ ap by_keys c.into_vec-rows.ensures
