use Rattle.std.proofs.Common.{◌∙◌, List, ℕ, Bool, true, length, set, sym, ap, subst, arith}
use Rattle.std.proofs.lemmas.List.{with_items_is, length-set}
use Rattle.order_witness.proofs.Placing.{IsPlacing-push}
use Rattle.forced_rows.specs.Marks.{ArePassed, AreMarkedBelow}
use Rattle.forced_rows.proofs.Ordering.{free_of, least_free, least_done, least_of_forced, least_meets, least_is_first}
use Rattle.forced_rows.proofs.Passing.{passed_more}
use Rattle.forced_rows.proofs.rows.ForcedRows.order.Goals as goal

pub loop-number-preserved : goal.loop-number-preserved
loop-number-preserved c =
    let size = c.args.self.now.reach.size in
    let pairs = c.args.self.now.reach.pairs in
    let marks = c.loop-number.marks.items in
    let n = c.in-Some.number in
    let may = rw c.deref.ensures.value at c.in-Some.ensures.may in
    let least = rw c.deref.ensures.value at c.in-Some.ensures.least in
    let kept = rw c.deref.ensures.value at c.in-Some.ensures.kept in
    let long = c.loop-number.invariant.passed.size_is in
    let same = with_items_is c.loop-number.passed c.next_marked.new.passed (kept.size_is ∙ sym long ∙ sym c.loop-number.passed.ok.0) in
    let marked = c.deref-in-Some.ensures.value in
    record {
      placing = rw c.in_ok-push.ensures.items (IsPlacing-push size pairs marks c.loop-number.order.items n (free_of pairs marks n may)
          (least_free size pairs marks c.loop-number.order.items n c.loop-number.invariant.placing least) c.loop-number.invariant.placing);
      passed = subst (λ (items : List ℕ). ArePassed size pairs (set marks n true) items) (sym same)
          (passed_more marks n may.unmarked.0 size pairs c.next_marked.new.passed kept);
      within = let w = c.marked_below-below.ensures.within in let s = ap (λ (bs : List Bool). length bs) marked in
          let l = length-set marks n true in let p = c.loop-number.invariant.placing.length_marks in omega arith;
      below = subst (λ (bs : List Bool). AreMarkedBelow bs c.marked_below-below.result) marked c.marked_below-below.ensures.marked;
    }

pub returns : goal.returns
returns c =
    let none = rw c.deref.ensures.value at c.in_default.ensures.none in
    let events = c.args.history.now.events in
    let rows = c.args.self.now in
    let order = c.loop-number.order.items in
    let least =
    least_done c.args.history.now.initial events rows c.loop-number.marks.items order c.requires.legal c.requires.kept c.size-size.ensures.in_range
    c.loop-number.invariant.placing none in
    record {
      meets = least_meets events rows order c.requires.kept least;
      first = least_is_first events rows order c.requires.kept least;
      least = least_of_forced events rows order c.requires.kept least;
    }
