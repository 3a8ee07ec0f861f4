use Rattle.std.proofs.Common.{List, subst, ap, arith, ℕ}
use Rattle.std.proofs.lemmas.Option.{slice_get_within}
use Rattle.cell_base.specs.declared.key.Key.{Key}
use Rattle.history_core.specs.declared.event.Event.TheVariants.{Scan}
use Rattle.cell_writers.specs.Numbered.{cell_in}
use Rattle.order_test.specs.Firsts.{firsts_at, ListsUpTo}
use Rattle.order_test.specs.Glance.{IsLimitOf}
use Rattle.order_test.specs.Sights.{IsReadAt}
use Rattle.order_test.proofs.SearchLemmas.{reader_of}
use Rattle.order_test.proofs.QuickLemmas.{read_as, unrivalled_as}
use Rattle.order_test.proofs.ReachLemmas.{reached_clear, number_here, value_at}
use Rattle.order_test.proofs.PresenceLemmas.{scan_reached_clear}
use Rattle.order_test.proofs.quick.is_reached.Goals as goal

pub index-limit-requires : goal.index-limit-requires
index-limit-requires c =
    let number = reader_of c.args.survey.now c.args.read.now c.requires.read in
    let high = number.1 in let count = c.requires.survey.glance_is.limits.count in omega arith

pub cell_is_clear-requires-clause-within : goal.cell_is_clear-requires-clause-within
cell_is_clear-requires-clause-within c =
    let wrote = c.requires.survey.writers_are in
    let here =
    number_here c.args.survey.now.events.now c.args.survey.now.cells.now wrote c.args.read.now.place c.args.read.now.event.now c.in-Read.cell c.index.result.now c.requires.read.of.is
    (ap cell_in c.in-Read.is) c.index.ensures
    in
    let within = slice_get_within c.args.survey.now.cells.now.numbers.cells.keys c.index.result.now c.in-Read.cell here in
    let count = wrote.count in
    omega arith

pub returns-in-Read : goal.returns-in-Read
returns-in-Read c = λ h.
    let number = reader_of c.args.survey.now c.args.read.now c.requires.read in
    let high = number.1 in
    let count = c.requires.survey.glance_is.limits.count in
    let wrote = c.requires.survey.writers_are in
    unrivalled_as c.args.survey.now c.args.read.now _ c.in-Read.is
    (reached_clear c.args.survey.now.events.now c.args.survey.now.order.now c.args.survey.now.places.now.at.items c.requires.survey.holds c.requires.survey.places_are
    c.args.survey.now.cells.now wrote _ c.in-Read.cell c.in-Read.source _ _ _ c.args.read.now.place c.args.read.now.reader
    (read_as c.args.survey.now c.args.read.now _ c.in-Read.is c.requires.read) c.index-limit.result.now c.index.result.now
    (number_here c.args.survey.now.events.now c.args.survey.now.cells.now wrote c.args.read.now.place c.args.read.now.event.now c.in-Read.cell c.index.result.now c.requires.read.of.is
    (ap cell_in c.in-Read.is) c.index.ensures)
    (subst (λ (limit : ℕ). IsLimitOf c.args.survey.now.events.now c.args.read.now.reader limit)
    (value_at c.args.survey.now.glance.now.limits.items c.args.read.now.reader c.index-limit.result.now (omega arith) c.index-limit.ensures)
    (c.requires.survey.glance_is.limits.each c.args.read.now.reader high))
    (c.cell_is_clear.ensures h))

pub index-limit-requires-in-Scan : goal.index-limit-requires-in-Scan
index-limit-requires-in-Scan c =
    let number = reader_of c.args.survey.now c.args.read.now c.requires.read in
    let high = number.1 in let count = c.requires.survey.glance_is.limits.count in omega arith

pub returns-in-Scan : goal.returns-in-Scan
returns-in-Scan c = λ h.
    let number = reader_of c.args.survey.now c.args.read.now c.requires.read in
    let high = number.1 in
    let count = c.requires.survey.glance_is.limits.count in
    let read : IsReadAt c.args.survey.now.events.now c.args.read.now.place (Scan c.in-Scan.session c.in-Scan.table c.in-Scan.keys) c.args.read.now.reader =
    read_as c.args.survey.now c.args.read.now (Scan c.in-Scan.session c.in-Scan.table c.in-Scan.keys) c.in-Scan.is c.requires.read
    in
    unrivalled_as c.args.survey.now c.args.read.now _ c.in-Scan.is
    (scan_reached_clear c.args.survey.now.events.now c.args.survey.now.order.now c.args.survey.now.cells.now c.requires.survey.writers_are c.args.survey.now.reaches.now.firsts
    (c.requires.survey.firsts_are (c.requires.survey.glance_is.scans c.args.read.now.place (Scan c.in-Scan.session c.in-Scan.table c.in-Scan.keys) read.of.is tt))
    c.in-Scan.session c.in-Scan.table c.in-Scan.keys c.args.read.now.place c.args.read.now.reader read c.index-limit-in-Scan.result.now
    (subst (λ (limit : ℕ). IsLimitOf c.args.survey.now.events.now c.args.read.now.reader limit)
    (value_at c.args.survey.now.glance.now.limits.items c.args.read.now.reader c.index-limit-in-Scan.result.now (omega arith) c.index-limit-in-Scan.ensures)
    (c.requires.survey.glance_is.limits.each c.args.read.now.reader high))
    (subst (λ (ks : List Key). ListsUpTo (firsts_at c.args.survey.now.reaches.now.firsts c.in-Scan.table) ks c.index-limit-in-Scan.result.now) c.as_slice.ensures (c.table_lists_to.ensures h)))
