use Rattle.std.proofs.Common.{subst, sym, ◌+◌, ℕ}
use Rattle.cell_base.specs.declared.cell.Cell.{Cell}
use Rattle.order_test.specs.declared.unkept.Unkept.TheVariants as unkept
use Rattle.order_test.specs.Sights.{IsAxiomOf, origin_of}
use Rattle.order_test.proofs.SearchLemmas.{no_rival_from, axiom_is}
use Rattle.order_test.proofs.search.axiom_of.Goals as goal

pub unreachable-requires : goal.unreachable-requires
unreachable-requires c =
    no_rival_from c.args.survey.now.events.now c.args.survey.now.order.now c.args.read.now.place c.args.read.now.event.now c.args.read.now.reader c.args.rival c.txn_of-writer.result.now
    c.requires.read c.requires.number.0 c.txn_of-writer.ensures c.in-None.ensures.none c.requires.rival.0 c.requires.rival.1

pub returns : goal.returns
returns c =
    subst (λ (cell : Cell). IsAxiomOf c.args.survey.now.events.now c.args.survey.now.order.now c.args.read.now.place (origin_of c.args.read.now.event.now) c.args.rival c.args.read.now.reader
    (unkept.Axiom (c.args.read.now.place + 1) c.origin.result c.args.rival c.args.read.now.reader cell))
    (sym c.in_ok-copy-in-Some.ensures)
    (subst (λ (from : ℕ). IsAxiomOf c.args.survey.now.events.now c.args.survey.now.order.now c.args.read.now.place (origin_of c.args.read.now.event.now) c.args.rival c.args.read.now.reader
    (unkept.Axiom (c.args.read.now.place + 1) from c.args.rival c.args.read.now.reader c.in-Some.cell.now))
    (sym c.origin.ensures)
    (axiom_is c.args.survey.now.events.now c.args.survey.now.order.now c.args.read.now.place c.args.read.now.event.now c.args.read.now.reader c.args.rival c.txn_of-writer.result.now
    c.in-Some.cell.now c.requires.read c.requires.number.0 c.txn_of-writer.ensures c.requires.rival c.in-Some.ensures.some))
