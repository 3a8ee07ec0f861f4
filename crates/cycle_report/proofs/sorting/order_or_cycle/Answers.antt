use Rattle.std.proofs.Common.{◌∙◌, List, ℕ, Bool, true, length, set, sym, ap, subst, arith}
use Rattle.std.proofs.lemmas.List.{with_items_is, length-set}
use Rattle.order_witness.proofs.Placing.{IsPlacing-push, HasLeastOrder-from_placing}
use Rattle.cycle_report.specs.Turns.{ArePassed, AreMarkedBelow}
use Rattle.cycle_report.proofs.TurnLemmas.{passed_more, none_passed, placing_none}
use Rattle.cycle_report.proofs.sorting.order_or_cycle.Goals as goal

pub loop-n-init : goal.loop-n-init
loop-n-init c =
    let edges = c.args.graph.now.edges.items in
    let size = c.args.graph.now.size in
    record {
      placing = rw c.new-order.ensures.items (placing_none edges size c.in_ok-marks.marks.items c.in_ok-marks.ensures);
      passed = none_passed edges c.in_ok-marks.marks.items size c.turns_of.new.turns.items (rw c.deref-2.ensures.value at c.in_ok-earlier.ensures.turns);
      within = omega arith;
      below = λ m none. absurd (omega arith);
    }

pub loop-n-preserved : goal.loop-n-preserved
loop-n-preserved c =
    let size = c.args.graph.now.size in
    let edges = c.args.graph.now.edges.items in
    let marks = c.loop-n.marks.items in
    let n = c.in-Some.n in
    let free = rw (c.deref-in-loop-n.ensures.value, c.deref-in-loop-n-3.ensures.value) at c.in-Some.ensures.free in
    let least = rw (c.deref-in-loop-n.ensures.value, c.deref-in-loop-n-3.ensures.value) at c.in-Some.ensures.least in
    let long = c.loop-n.invariant.placing.length_marks in
    let kept = subst (λ (l : ℕ). ArePassed edges marks l c.next_free.new.turns) long
    (rw (c.deref-in-loop-n.ensures.value, c.deref-in-loop-n-3.ensures.value) at c.in-Some.ensures.passed) in
    let same = with_items_is c.loop-n.turns c.next_free.new.turns (kept.size_is ∙ sym c.loop-n.invariant.passed.size_is ∙ sym c.loop-n.turns.ok.0) in
    let marked = c.deref-in-Some.ensures.value in
    record {
      placing = rw c.in_ok-push.ensures.items (IsPlacing-push size edges marks c.loop-n.order.items n free least c.loop-n.invariant.placing);
      passed = subst (λ (items : List ℕ). ArePassed edges (set marks n true) size items) (sym same)
          (passed_more marks n free.unmarked.0 edges size c.next_free.new.turns kept);
      within = let w = c.marked_below-below.ensures.within in let s = ap (λ (bs : List Bool). length bs) marked in
          let l = length-set marks n true in let p = c.loop-n.invariant.placing.length_marks in omega arith;
      below = subst (λ (bs : List Bool). AreMarkedBelow bs c.marked_below-below.result) marked c.marked_below-below.ensures.marked;
    }

pub returns-in-None : goal.returns-in-None
returns-in-None c =
    let same = c.loop-n.invariant.placing.length_marks in
    HasLeastOrder-from_placing c.args.graph.now.size c.args.graph.now.edges.items c.loop-n.marks.items c.loop-n.order.items c.loop-n.invariant.placing
    (λ n small. rw c.deref-3.ensures.value at (c.in-None.ensures.none n (rw c.deref-3.ensures.value (omega arith)))) c.requires
