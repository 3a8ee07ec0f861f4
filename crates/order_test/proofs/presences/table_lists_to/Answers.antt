use Rattle.std.proofs.Common.{ℕ, List, sym, ◌∙◌, subst}
use Rattle.cell_base.specs.declared.key.Key.{Key}
use Rattle.order_test.specs.Firsts.{ListsUpTo}
use Rattle.order_test.proofs.FirstLemmas.{found_pairs}
use Rattle.order_test.proofs.presences.table_lists_to.Goals as goal

pub returns-in-Some : goal.returns-in-Some
returns-in-Some c = λ h.
    subst (λ (ps : List (ℕ × Key)). ListsUpTo ps c.args.keys.now c.args.top)
    (c.as_slice.ensures ∙ sym (found_pairs c.args.firsts.now c.args.table c.in-Some.list.now c.in-Some.ensures.value)) (c.are_listed_to.ensures h)
