use Rattle.std.proofs.Common.{◌≡◌, ℕ, length, sym, ◌∙◌, subst, arith}
use Rattle.order_test.specs.Glance.{AreWithin}
use Rattle.order_test.specs.Listed.{AreTxnsWithin}
use Rattle.order_test.proofs.ListedLemmas.{txns_within}
use Rattle.order_test.proofs.search.found_after.Goals as goal

pub pasts_of-requires-clause-some : goal.pasts_of-requires-clause-some
pasts_of-requires-clause-some g c = let some = c.requires.survey.glance_is.last.some in let width = c.len-width.ensures in omega arith

pub pasts_of-requires-clause-within : goal.pasts_of-requires-clause-within
pasts_of-requires-clause-within g c =
    let width : length c.args.survey.now.glance.now.last.items ≡ c.len-width.result = let len = c.len-width.ensures in omega arith in
    subst (λ (n : ℕ). AreWithin n c.args.survey.now.events.now) width c.requires.survey.glance_is.last.within

pub lists_of-requires-clause-within : goal.lists_of-requires-clause-within
lists_of-requires-clause-within g c =
    let width : length c.args.survey.now.glance.now.last.items ≡ c.len-width.result = let len = c.len-width.ensures in omega arith in
    subst (λ (n : ℕ). AreTxnsWithin n c.args.txns.now) width
    (txns_within c.args.survey.now.events.now (length c.args.survey.now.glance.now.last.items) c.args.txns.now c.requires.survey.glance_is.last.within c.requires.txns)

pub found_by_walk-requires-clause-scene : goal.found_by_walk-requires-clause-scene
found_by_walk-requires-clause-scene g c =
    let width : length c.args.survey.now.glance.now.last.items ≡ c.len-width.result = let len = c.len-width.ensures in omega arith in
    record {
      txns_are = c.requires.txns;
      pasts_are = c.in_ok-pasts.ensures;
      sessions = c.requires.sessions;
      lists_are = c.in_ok-lists.ensures.lists;
      firsts_are = c.in_ok-lists.ensures.firsts;
      within =
          subst (λ (n : ℕ). AreTxnsWithin n c.args.txns.now) (width ∙ sym c.in_ok-lists.ensures.width)
          (txns_within c.args.survey.now.events.now (length c.args.survey.now.glance.now.last.items) c.args.txns.now c.requires.survey.glance_is.last.within c.requires.txns);
    }
