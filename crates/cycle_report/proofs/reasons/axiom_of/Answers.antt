use Rattle.std.proofs.Common.{◌+◌, sym, subst}
use Rattle.cell_base.specs.declared.cell.Cell.{Cell}
use Rattle.cycle_report.specs.declared.judgement.Reason.TheVariants as reasons
use Rattle.cycle_report.specs.Reasons.{IsReasonOf}
use Rattle.cycle_report.proofs.ReasonLemmas.{axiom_reason, listed_demanded}
use Rattle.cycle_report.proofs.reasons.axiom_of.Goals as goal

pub first_demand-requires-clause-first : goal.first_demand-requires-clause-first
first_demand-requires-clause-first c =
    (listed_demanded c.args.level c.args.view.now.events.now c.args.first c.args.second c.requires.apart c.requires.unread c.requires.listed).0

pub unreachable-requires : goal.unreachable-requires
unreachable-requires c =
    let demanded = listed_demanded c.args.level c.args.view.now.events.now c.args.first c.args.second c.requires.apart c.requires.unread c.requires.listed in
    c.in-None.ensures.none demanded.1.0 demanded.1.1

pub returns : goal.returns
returns c =
    subst (λ (cell : Cell). IsReasonOf c.args.level c.args.view.now.events.now c.args.first c.args.second (reasons.Axiom (c.in-Some.found.0 + 1) cell))
    (sym c.in_ok-cell-in-Some.ensures)
    (axiom_reason c.args.level c.args.view.now.events.now c.args.first c.args.second c.in-Some.found.0 c.in-Some.found.1.now c.requires.apart c.requires.unread
    c.in-Some.ensures.some)
