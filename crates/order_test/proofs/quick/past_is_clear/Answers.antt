use Rattle.std.proofs.Common.{ℕ, ◌<◌, length, sym, subst, List}
use Rattle.std.specs.List.{slice_index}
use Rattle.cell_base.specs.declared.key.Key.{Key}
use Rattle.cell_writers.specs.declared.writers.CellWriters.{CellWriters}
use Rattle.order_test.specs.declared.firsts.TableFirsts.{TableFirsts}
use Rattle.order_test.specs.Firsts.{AreRisingInAll, PastIsListed}
use Rattle.order_test.specs.Listed.{HasNoLate, listed_at}
use Rattle.order_test.proofs.SearchLemmas.{reader_of}
use Rattle.order_test.proofs.QuickLemmas.{past_clear, scan_clear, read_as, unrivalled_as}
use Rattle.order_test.proofs.FirstLemmas.{all_rising}
use Rattle.order_test.proofs.quick.past_is_clear.Goals as goal

pub past_of-requires-clause-number : goal.past_of-requires-clause-number
past_of-requires-clause-number c = (reader_of c.args.survey.now c.args.read.now c.requires.read).1

pub returns-in-Read : goal.returns-in-Read
returns-in-Read c = λ h.
    unrivalled_as c.args.survey.now c.args.read.now _ c.in-Read.is
    (past_clear c.args.survey.now c.args.scene.now c.requires.survey c.requires.scene _ c.in-Read.cell c.in-Read.source _ _ _ c.args.read.now.place c.args.read.now.reader
    (read_as c.args.survey.now c.args.read.now _ c.in-Read.is c.requires.read) c.past_of.result.now c.past_of.ensures
    (subst (λ (ls : List CellWriters). (session : ℕ) → session < length ls →
    HasNoLate c.args.survey.now.places.now.at.items (listed_at ls session c.in-Read.cell) (slice_index c.past_of.result.now.tops.items session) c.in-Read.source)
    c.deref.ensures.value (c.past_has_none.ensures h)))

pub past_is_listed-requires : goal.past_is_listed-requires
past_is_listed-requires c =
    subst (λ (fs : List TableFirsts). AreRisingInAll fs) (sym c.deref-in-Scan.ensures.value)
    (all_rising c.args.scene.now.lists.now.writers.items (length c.args.scene.now.txns.now) c.args.scene.now.lists.now.firsts.items c.requires.scene.firsts_are)

pub returns-in-Scan : goal.returns-in-Scan
returns-in-Scan c = λ h.
    unrivalled_as c.args.survey.now c.args.read.now _ c.in-Scan.is
    (scan_clear c.args.survey.now c.args.scene.now c.requires.survey c.requires.scene _ c.in-Scan.table c.in-Scan.keys c.args.read.now.place c.args.read.now.reader
    (read_as c.args.survey.now c.args.read.now _ c.in-Scan.is c.requires.read) c.past_of-in-Scan.result.now c.past_of-in-Scan.ensures
    (subst (λ (fs : List TableFirsts). PastIsListed fs c.past_of-in-Scan.result.now.tops.items c.in-Scan.table c.in-Scan.keys) c.deref-in-Scan.ensures.value
    (subst (λ (ks : List Key). PastIsListed c.deref-in-Scan.result.now c.past_of-in-Scan.result.now.tops.items c.in-Scan.table ks) c.as_slice.ensures (c.past_is_listed.ensures h))))

pub past_of-requires-in-Scan-clause-number : goal.past_of-requires-in-Scan-clause-number
past_of-requires-in-Scan-clause-number c = (reader_of c.args.survey.now c.args.read.now c.requires.read).1
