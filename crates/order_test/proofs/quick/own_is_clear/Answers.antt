use Rattle.std.proofs.Common.{ℕ, ◌<◌, List, length, sym, subst}
use Rattle.cell_base.specs.declared.key.Key.{Key}
use Rattle.history_core.specs.declared.event.Event.{Event}
use Rattle.history_core.specs.Relations.{IsSessionOrdered}
use Rattle.order_test.specs.Listed.{HasNoLate, listed_at}
use Rattle.order_test.specs.Sights.{IsRival, origin_of}
use Rattle.order_test.proofs.SearchLemmas.{reader_of}
use Rattle.cell_writers.specs.declared.writers.CellWriters.{CellWriters}
use Rattle.order_test.specs.declared.firsts.TableFirsts.{TableFirsts}
use Rattle.order_test.specs.Firsts.{AreRisingInAll, SessionIsListed}
use Rattle.order_test.proofs.QuickLemmas.{own_clear, own_scan_clear, session_within, read_as}
use Rattle.order_test.proofs.FirstLemmas.{all_rising}
use Rattle.order_test.proofs.quick.own_is_clear.Goals as goal

pub txn_of-requires-clause-number : goal.txn_of-requires-clause-number
txn_of-requires-clause-number c = reader_of c.args.survey.now c.args.read.now c.requires.read

pub past_of-requires-clause-number : goal.past_of-requires-clause-number
past_of-requires-clause-number c = (reader_of c.args.survey.now c.args.read.now c.requires.read).1

pub session_has_none-requires-clause-within : goal.session_has_none-requires-clause-within
session_has_none-requires-clause-within c =
    let number = reader_of c.args.survey.now c.args.read.now c.requires.read in
    subst (λ (ls : List CellWriters). c.txn_of.result.now.session < length ls) (sym c.deref.ensures.value)
    (session_within c.args.survey.now c.args.scene.now c.requires.survey c.requires.scene c.args.read.now.reader number.0 number.1 c.txn_of.result.now c.txn_of.ensures)

pub returns-in-Read : goal.returns-in-Read
returns-in-Read c = λ h.
    subst (λ (e : Event). (other : ℕ) → IsSessionOrdered c.args.survey.now.events.now other c.args.read.now.reader →
    IsRival c.args.survey.now.events.now c.args.survey.now.order.now c.args.read.now.place (origin_of e) c.args.read.now.reader other → ⊥)
    (sym c.in-Read.is)
    (own_clear c.args.survey.now c.args.scene.now c.requires.survey c.requires.scene _ c.in-Read.cell c.in-Read.source _ _ _ c.args.read.now.place c.args.read.now.reader
    (read_as c.args.survey.now c.args.read.now _ c.in-Read.is c.requires.read) c.past_of.result.now c.past_of.ensures c.txn_of.result.now c.txn_of.ensures
    (subst (λ (limit : ℕ). HasNoLate c.args.survey.now.places.now.at.items (listed_at c.args.scene.now.lists.now.writers.items c.txn_of.result.now.session c.in-Read.cell) limit c.in-Read.source)
    c.top_of-limit.ensures
    (subst (λ (ls : List CellWriters). HasNoLate c.args.survey.now.places.now.at.items (listed_at ls c.txn_of.result.now.session c.in-Read.cell) c.top_of-limit.result c.in-Read.source)
    c.deref.ensures.value (c.session_has_none.ensures h))))

pub session_is_listed-requires-clause-rising : goal.session_is_listed-requires-clause-rising
session_is_listed-requires-clause-rising c =
    subst (λ (fs : List TableFirsts). AreRisingInAll fs) (sym c.deref-in-Scan.ensures.value)
    (all_rising c.args.scene.now.lists.now.writers.items (length c.args.scene.now.txns.now) c.args.scene.now.lists.now.firsts.items c.requires.scene.firsts_are)

pub session_is_listed-requires-clause-within : goal.session_is_listed-requires-clause-within
session_is_listed-requires-clause-within c =
    let number = reader_of c.args.survey.now c.args.read.now c.requires.read in
    subst (λ (fs : List TableFirsts). c.txn_of.result.now.session < length fs) (sym c.deref-in-Scan.ensures.value)
    (subst (λ (n : ℕ). c.txn_of.result.now.session < n) (sym c.requires.scene.firsts_are.count)
    (session_within c.args.survey.now c.args.scene.now c.requires.survey c.requires.scene c.args.read.now.reader number.0 number.1 c.txn_of.result.now c.txn_of.ensures))

pub returns-in-Scan : goal.returns-in-Scan
returns-in-Scan c = λ h.
    subst (λ (e : Event). (other : ℕ) → IsSessionOrdered c.args.survey.now.events.now other c.args.read.now.reader →
    IsRival c.args.survey.now.events.now c.args.survey.now.order.now c.args.read.now.place (origin_of e) c.args.read.now.reader other → ⊥)
    (sym c.in-Scan.is)
    (own_scan_clear c.args.survey.now c.args.scene.now c.requires.survey c.requires.scene _ c.in-Scan.table c.in-Scan.keys c.args.read.now.place c.args.read.now.reader
    (read_as c.args.survey.now c.args.read.now _ c.in-Scan.is c.requires.read) c.past_of.result.now c.past_of.ensures c.txn_of.result.now c.txn_of.ensures
    (subst (λ (limit : ℕ). SessionIsListed c.args.scene.now.lists.now.firsts.items c.txn_of.result.now.session c.in-Scan.table c.in-Scan.keys limit) c.top_of-limit.ensures
    (subst (λ (fs : List TableFirsts). SessionIsListed fs c.txn_of.result.now.session c.in-Scan.table c.in-Scan.keys c.top_of-limit.result) c.deref-in-Scan.ensures.value
    (subst (λ (ks : List Key). SessionIsListed c.deref-in-Scan.result.now c.txn_of.result.now.session c.in-Scan.table ks c.top_of-limit.result) c.as_slice.ensures (c.session_is_listed.ensures h)))))
