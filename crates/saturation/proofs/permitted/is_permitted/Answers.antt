use Rattle.std.proofs.Common.{◌≡◌, ◌+◌, ℕ, Some, None, sym, ◌∙◌, subst}
use Rattle.std.proofs.lemmas.Bool.{false≢true, not-true, not_from_false, false_from_ne_true}
use Rattle.graph_base.specs.Walk.{IsInRange}
use Rattle.cell_base.specs.declared.value.Value.{Value}
use Rattle.cell_base.specs.declared.value.Value.TheVariants.{Unset}
use Rattle.saturation.specs.Laws.{with_read}
use Rattle.saturation.proofs.After.{size_after}
use Rattle.saturation.proofs.Decides.{consistent_no_cycle, consistent_from_no_cycle}
use Rattle.history_core.specs.Forced.{IsForced, IsPairList}
use Rattle.saturation.proofs.permitted.is_permitted.Goals as goal

pub unreachable-requires : goal.unreachable-requires
unreachable-requires c =
    let some = (c.pending.ensures c.requires.pending.0).1 c.requires.pending.1 in
    let both : None ≡ Some c.requires.pending.0 = sym c.in_default.is ∙ some in
    cc

pub holds_cycle-requires : goal.holds_cycle-requires
holds_cycle-requires c =
    subst (λ (n : ℕ). IsInRange n c.in_ok-graph.graph.edges.items) (sym c.in_ok-graph.ensures.size) (c.in_ok-graph.ensures.pairs 0 0 Unset).in_range

pub returns : goal.returns
returns c =
    let events = c.args.history.now.events in
    let x = c.args.cell.now in
    let list = λ (n u : ℕ) (v : Value).
    subst (λ (m : ℕ). IsPairList (IsForced (with_read events c.args.session x c.args.source n u v)) (m + 1) c.in_ok-graph.graph.edges.items)
    (sym (size_after events c.args.session x c.args.source n u v)) (c.in_ok-graph.ensures.pairs n u v) in (
      λ permitted. (
        c.is_writer.ensures.0 c.if-not-is_writer.false,
        λ n u v. consistent_from_no_cycle (with_read events c.args.session x c.args.source n u v) c.in_ok-graph.graph.edges.items (list n u v)
            (λ cycle. false≢true (sym (not-true c.in_ok-cyclic.cyclic permitted) ∙ c.in_ok-cyclic.ensures.1 cycle)),
      ),
      λ permitted. not_from_false c.in_ok-cyclic.cyclic
          (false_from_ne_true c.in_ok-cyclic.cyclic (λ cyclic.
          consistent_no_cycle (with_read events c.args.session x c.args.source 0 0 Unset) c.in_ok-graph.graph.edges.items (list 0 0 Unset) (permitted.1 0 0 Unset)
          (c.in_ok-cyclic.ensures.0 cyclic))),
    )
