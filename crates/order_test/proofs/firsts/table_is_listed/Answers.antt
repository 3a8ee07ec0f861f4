use Rattle.std.proofs.Common.{ℕ, List, sym, ◌∙◌, subst}
use Rattle.cell_base.specs.declared.key.Key.{Key}
use Rattle.order_test.specs.Firsts.{IsRising, ListsUpTo}
use Rattle.order_test.proofs.FirstLemmas.{found_pairs}
use Rattle.order_test.proofs.firsts.table_is_listed.Goals as goal

pub lists_up_to-requires : goal.lists_up_to-requires
lists_up_to-requires c =
    subst (λ (ps : List (ℕ × Key)). IsRising ps) (found_pairs c.args.firsts.now c.args.table c.in-Some.list.now c.in-Some.ensures.value ∙ sym c.as_slice.ensures) (c.requires c.args.table)

pub returns-in-Some : goal.returns-in-Some
returns-in-Some c = λ h.
    subst (λ (ps : List (ℕ × Key)). ListsUpTo ps c.args.keys.now c.args.top)
    (c.as_slice.ensures ∙ sym (found_pairs c.args.firsts.now c.args.table c.in-Some.list.now c.in-Some.ensures.value)) (c.lists_up_to.ensures h)
