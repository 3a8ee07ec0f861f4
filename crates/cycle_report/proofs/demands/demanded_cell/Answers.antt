use Rattle.std.proofs.Common.{sym, ◌∙◌}
use Rattle.std.proofs.lemmas.Bool.{false≢true}
use Rattle.order_test.specs.Sights.{origin_of}
use Rattle.order_test.proofs.RivalLemmas.{some_weaker, none_weaker}
use Rattle.order_test.proofs.SearchLemmas.{reader_number}
use Rattle.cycle_report.proofs.DemandLemmas.{first_demand_of, no_demand_of_source, no_demand_uncommitted, no_demand_unseen, no_demand_unwritten}
use Rattle.cycle_report.proofs.demands.demanded_cell.Goals as goal

pub sees-requires-clause-reader : goal.sees-requires-clause-reader
sees-requires-clause-reader c = reader_number c.args.view.now.events.now c.args.place c.args.event.now c.args.reader c.requires.read

pub returns-then-writer-from-clause-none : goal.returns-then-writer-from-clause-none
returns-then-writer-from-clause-none c =
    no_demand_of_source c.args.level c.args.view.now.events.now c.args.place c.args.writer (origin_of c.args.event.now) (c.if-writer-from.true ∙ c.origin-from.ensures)

pub returns-then-not-is_committed-clause-none : goal.returns-then-not-is_committed-clause-none
returns-then-not-is_committed-clause-none c =
    no_demand_uncommitted c.args.level c.args.view.now.events.now c.args.place c.txn_of-txn.result.now c.args.writer (origin_of c.args.event.now) c.requires.writer.0
    c.txn_of-txn.ensures (λ state. false≢true (sym c.if-not-is_committed.true ∙ c.is_committed.ensures.1 state))

pub returns-then-not-sees-clause-none : goal.returns-then-not-sees-clause-none
returns-then-not-sees-clause-none c =
    no_demand_unseen c.args.level c.args.view.now.events.now c.args.place c.args.event.now c.args.reader c.args.writer (origin_of c.args.event.now)
    c.requires.view.orderly c.requires.read (λ visible. false≢true (sym c.if-not-sees.true ∙ c.sees.ensures.1 visible))

pub returns-clause-some : goal.returns-clause-some
returns-clause-some c =
    some_weaker _ _ c.rival_cell.result
    (λ cell first. first_demand_of c.args.level c.args.view.now.events.now c.args.place c.args.event.now c.args.reader c.txn_of-txn.result.now cell.now c.args.writer
    c.requires.view.orderly c.requires.read c.requires.writer.0 c.txn_of-txn.ensures (c.is_committed.ensures.0 c.if-not-is_committed.false)
    (λ same. c.if-writer-from.false (same ∙ sym c.origin-from.ensures)) (c.sees.ensures.0 c.if-not-sees.false) first)
    c.rival_cell.ensures.some

pub returns-clause-none : goal.returns-clause-none
returns-clause-none c =
    none_weaker _ _ c.rival_cell.result
    (λ none. no_demand_unwritten c.args.level c.args.view.now.events.now c.args.place c.args.event.now c.args.reader c.txn_of-txn.result.now c.args.writer
    c.requires.view.orderly c.requires.read c.requires.writer.0 c.txn_of-txn.ensures none)
    c.rival_cell.ensures.none
