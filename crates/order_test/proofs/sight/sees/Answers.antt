use Rattle.std.proofs.Common.{subst}
use Rattle.cell_base.specs.declared.level.Level.{Level}
use Rattle.cell_base.specs.declared.level.Level.TheVariants.{Rc, Ra, Cc}
use Rattle.history_core.specs.Transactions.{RunsAt}
use Rattle.order_test.proofs.SightLemmas.{visible_at}
use Rattle.order_test.proofs.sight.sees.Goals as goal

pub returns-in-Rc : goal.returns-in-Rc
returns-in-Rc c =
    let both = visible_at c.args.survey.now.events.now c.args.read.now.reader c.args.read.now.place c.args.writer Rc (subst (λ (l : Level). RunsAt c.args.survey.now.events.now c.args.read.now.reader l) c.in-Rc.is c.txn_of.ensures.level) in
    (λ h. both.0 (c.reads_before.ensures.0 h), λ visible. c.reads_before.ensures.1 (both.1 visible))

pub returns-in-Ra : goal.returns-in-Ra
returns-in-Ra c =
    let both = visible_at c.args.survey.now.events.now c.args.read.now.reader c.args.read.now.place c.args.writer Ra (subst (λ (l : Level). RunsAt c.args.survey.now.events.now c.args.read.now.reader l) c.in-Ra.is c.txn_of.ensures.level) in
    (λ h. both.0 (c.precedes.ensures.0 h), λ visible. c.precedes.ensures.1 (both.1 visible))

pub returns-in-Cc : goal.returns-in-Cc
returns-in-Cc c =
    let both = visible_at c.args.survey.now.events.now c.args.read.now.reader c.args.read.now.place c.args.writer Cc (subst (λ (l : Level). RunsAt c.args.survey.now.events.now c.args.read.now.reader l) c.in-Cc.is c.txn_of.ensures.level) in
    (λ h. both.0 (c.precedes_causally.ensures.0 h), λ visible. c.precedes_causally.ensures.1 (both.1 visible))
