use Rattle.std.proofs.Common.{ℕ, ◌+◌, ap, sym, ◌∙◌}
use Rattle.cycle_report.proofs.PairSteps.{begun_more, begun_same, link_one, link_none}
use Rattle.cycle_report.proofs.pairs.add_link.Goals as goal

pub returns-then-not-is_begin-clause-count : goal.returns-then-not-is_begin-clause-count
returns-then-not-is_begin-clause-count c =
    c.requires.count ∙ sym (begun_same c.args.events.now c.args.place c.args.event.now c.requires.is (sym c.is_begin.ensures ∙ c.if-not-is_begin.true))

pub returns-then-not-is_begin-clause-pairs : goal.returns-then-not-is_begin-clause-pairs
returns-then-not-is_begin-clause-pairs c =
    link_none c.args.events.now c.args.place c.args.event.now c.args.edges.now.items c.requires.is (sym c.is_begin.ensures ∙ c.if-not-is_begin.true)

pub returns-clause-count : goal.returns-clause-count
returns-clause-count c =
    c.next_number-number.ensures ∙ ap (λ (n : ℕ). n + 1) c.requires.count
    ∙ sym (begun_more c.args.events.now c.args.place c.args.event.now c.requires.is (sym c.is_begin.ensures ∙ c.if-not-is_begin.false))

pub returns-clause-pairs : goal.returns-clause-pairs
returns-clause-pairs c =
    link_one c.args.events.now c.args.place c.args.event.now c.args.owner c.next_number-number.result c.args.edges.now.items c.add_edge.new.edges.items c.requires.is
    (sym c.is_begin.ensures ∙ c.if-not-is_begin.false) c.requires.owner (c.next_number-number.ensures ∙ ap (λ (n : ℕ). n + 1) c.requires.count)
    c.in_ok-add_edge.ensures
