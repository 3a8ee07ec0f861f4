use Rattle.std.proofs.Common.{◌<◌, List, length, sym, ◌∙◌, subst}
use Rattle.graph_base.specs.declared.Edge.{Edge}
use Rattle.cycle_report.specs.Rings.{IsAnyRing}
use Rattle.cycle_report.proofs.RingLemmas.{ring_cut, cut_shorter, rest_whole}
use Rattle.cycle_report.proofs.rings.cut.Goals as goal

pub returns-clause-ring : goal.returns-clause-ring
returns-clause-ring c =
    subst (λ (xs : List Edge). IsAnyRing c.args.edges.now xs) (sym (c.in_ok-shorter.ensures ∙ rest_whole c.args.ring.now c.args.first c.args.second))
    (ring_cut c.args.edges.now c.args.ring.now c.args.first c.args.second c.requires.ring c.requires.repeats)

pub returns-clause-shorter : goal.returns-clause-shorter
returns-clause-shorter c =
    subst (λ (xs : List Edge). length xs < length c.args.ring.now) (sym (c.in_ok-shorter.ensures ∙ rest_whole c.args.ring.now c.args.first c.args.second))
    (cut_shorter c.args.ring.now c.args.first c.args.second c.requires.repeats)
