-- A legal history keeps to the rules of its events, so that no breach is told of it.
use Rattle.std.proofs.Common.{◌≡◌, ℕ, ◌+◌, ◌<◌, ◌≤◌, ◌%◌, List, ◌++◌, Some, length, take, drop, arith, ap, sym, ◌∙◌, inl, inr, length-append, take-append-drop, length-take}
use Rattle.std.specs.List.{slice_get}
use Rattle.std.proofs.lemmas.List.{take-take}
use Rattle.std.proofs.lemmas.List.Elements.{filter_map-append}
use Rattle.std.proofs.lemmas.Option.{slice_get_within}
use Rattle.cell_base.specs.declared.cell.Cell.{Cell}
use Rattle.cell_base.specs.declared.value.Value.{Value}
use Rattle.history_core.specs.declared.event.Event.{Event}
use Rattle.history_core.specs.declared.event.Event.TheVariants as events
use Rattle.history_core.specs.Events.{begun, names, defined, defined_name, table_of}
use Rattle.history_core.specs.Relations.{HasWritten, LastWrites, Writes, WritesValue, Meets}
use Rattle.history_core.specs.Legal.{IsDefined, Follows, IsFormed, IsLegal, IsOffered}
use Rattle.history_core.proofs.Places.{slice_get-take}
use Rattle.history_core.proofs.Offers.{writer_bounded}
use Rattle.history_log.specs.declared.trace.Trace.{Trace}
use Rattle.order_test.proofs.UnkeptLaws.{kept_none}
use Rattle.history_check.specs.declared.breach.Breach.{Breach}
use Rattle.history_check.specs.Rules.{Rule, shape, number, keys, own, source, value, count, IsInShape, SaysRightNumber, ListsRightKeys, ReadsByOwnWrites, HasSource, HasValue, HasCount, Keeps}
use Rattle.history_check.specs.Breaches.{IsToldOf, IsFirstEventBreach}
use Rattle.history_check.specs.Orders.{IsFirstBreach}
use Rattle.history_check.proofs.CountLemmas.{rising_short}

-- ---- the tables of cells that were written

-- of a longer front there are as many tables, or more
defined-take-le : (all : List Event) (i j : ℕ) → i ≤ j → defined (take i all) ≤ defined (take j all)
defined-take-le all i j le =
    let front : List Event = take j all in
    let cut : names front ≡ names (take i front) ++ names (drop i front) =
    ap names (sym (take-append-drop i front)) ∙ filter_map-append defined_name (take i front) (drop i front) in
    let parts : defined front ≡ defined (take i front) + length (names (drop i front)) =
    ap length cut ∙ length-append (names (take i front)) (names (drop i front)) in
    let same : defined (take i front) ≡ defined (take i all) = ap defined (take-take i j all le) in
    omega (arith, parts, same)

-- a transaction has written cells of defined tables alone
written_defined :
    (initial : List (Cell × Value)) (all : List Event) (k txn : ℕ) (cell : Cell) → IsFormed initial all → HasWritten (take k all) txn cell →
    IsDefined (take k all) (table_of cell)
written_defined initial all k txn cell formed wrote =
    let w : Event = events.Write wrote.session cell wrote.value in
    let within : wrote.place < length (take k all) = slice_get_within (take k all) wrote.place w wrote.write.is in
    let size = length-take k all in
    let under : wrote.place < k = omega (arith, within, size) in
    let at : slice_get all wrote.place ≡ Some w = sym (slice_get-take all k wrote.place under) ∙ wrote.write.is in
    let fits = (formed wrote.place w at).follows in
    let there : table_of cell < defined (take wrote.place all) = fits.1 in
    let more = defined-take-le all wrote.place k (omega (arith, under)) in
    omega (arith, there, more)

-- ---- the rules of one event

written_of : (before : List Event) (txn : ℕ) (cell : Cell) (v : Value) → LastWrites before txn cell v → HasWritten before txn cell
written_of before txn cell v last = record { place = last.place; session = last.session; value = v; write = last.write }

writes_of : (initial : List (Cell × Value)) (before : List Event) (txn : ℕ) (cell : Cell) (v : Value) → WritesValue initial before txn cell v → Writes before txn cell
writes_of initial before txn cell v (inl first) = inl first.0
writes_of initial before txn cell v (inr later) = inr (later.0, written_of before txn cell v later.1)

keeps_shape :
    (initial : List (Cell × Value)) (all : List Event) (k : ℕ) (e : Event) → IsFormed initial all → Follows initial (take k all) e → IsInShape (take k all) e
keeps_shape initial all k (events.Open s) formed fits = fits
keeps_shape initial all k (events.Close s) formed fits = fits
keeps_shape initial all k (events.Define s name) formed fits = fits
keeps_shape initial all k (events.Look s tables) formed fits = fits.0
keeps_shape initial all k (events.Begin s level) formed fits = fits
keeps_shape initial all k (events.Scan s table listed) formed fits = (fits.0, fits.1)
keeps_shape initial all k (events.Read s cell from offered word v) formed fits =
    let bound : from < begun (take k all) + 1 = writer_bounded (take k all) from cell (writes_of initial (take k all) from cell v fits.3) in
    (fits.0, fits.2, omega (arith, bound))
keeps_shape initial all k (events.Own s cell v) formed fits =
    ((fits.0, fits.1), written_defined initial all k fits.0 cell formed (written_of (take k all) fits.0 cell v fits.2))
keeps_shape initial all k (events.Write s cell v) formed fits = fits
keeps_shape initial all k (events.Commit s) formed fits = fits
keeps_shape initial all k (events.Rollback s) formed fits = fits
keeps_shape initial all k (events.Show s n) formed fits = fits.0

keeps_number : (initial : List (Cell × Value)) (before : List Event) (e : Event) → Follows initial before e → SaysRightNumber before e
keeps_number initial before (events.Look s tables) fits = fits.1
keeps_number initial before (events.Show s n) fits = fits.1
keeps_number initial before (events.Open s) fits = tt
keeps_number initial before (events.Close s) fits = tt
keeps_number initial before (events.Define s name) fits = tt
keeps_number initial before (events.Begin s level) fits = tt
keeps_number initial before (events.Scan s table listed) fits = tt
keeps_number initial before (events.Read s cell from offered word v) fits = tt
keeps_number initial before (events.Own s cell v) fits = tt
keeps_number initial before (events.Write s cell v) fits = tt
keeps_number initial before (events.Commit s) fits = tt
keeps_number initial before (events.Rollback s) fits = tt

keeps_keys : (initial : List (Cell × Value)) (before : List Event) (e : Event) → Follows initial before e → ListsRightKeys initial before e
keeps_keys initial before (events.Scan s table listed) fits = fits.2
keeps_keys initial before (events.Open s) fits = tt
keeps_keys initial before (events.Close s) fits = tt
keeps_keys initial before (events.Define s name) fits = tt
keeps_keys initial before (events.Look s tables) fits = tt
keeps_keys initial before (events.Begin s level) fits = tt
keeps_keys initial before (events.Read s cell from offered word v) fits = tt
keeps_keys initial before (events.Own s cell v) fits = tt
keeps_keys initial before (events.Write s cell v) fits = tt
keeps_keys initial before (events.Commit s) fits = tt
keeps_keys initial before (events.Rollback s) fits = tt
keeps_keys initial before (events.Show s n) fits = tt

keeps_own : (initial : List (Cell × Value)) (before : List Event) (e : Event) → Follows initial before e → ReadsByOwnWrites before e
keeps_own initial before (events.Read s cell from offered word v) fits = fits.1
keeps_own initial before (events.Own s cell v) fits = record { number = fits.0; pending = fits.1; written = written_of before fits.0 cell v fits.2 }
keeps_own initial before (events.Open s) fits = tt
keeps_own initial before (events.Close s) fits = tt
keeps_own initial before (events.Define s name) fits = tt
keeps_own initial before (events.Look s tables) fits = tt
keeps_own initial before (events.Begin s level) fits = tt
keeps_own initial before (events.Scan s table listed) fits = tt
keeps_own initial before (events.Write s cell v) fits = tt
keeps_own initial before (events.Commit s) fits = tt
keeps_own initial before (events.Rollback s) fits = tt
keeps_own initial before (events.Show s n) fits = tt

keeps_source : (initial : List (Cell × Value)) (before : List Event) (e : Event) → Follows initial before e → HasSource before e
keeps_source initial before (events.Read s cell from offered word v) fits = writes_of initial before from cell v fits.3
keeps_source initial before (events.Open s) fits = tt
keeps_source initial before (events.Close s) fits = tt
keeps_source initial before (events.Define s name) fits = tt
keeps_source initial before (events.Look s tables) fits = tt
keeps_source initial before (events.Begin s level) fits = tt
keeps_source initial before (events.Scan s table listed) fits = tt
keeps_source initial before (events.Own s cell v) fits = tt
keeps_source initial before (events.Write s cell v) fits = tt
keeps_source initial before (events.Commit s) fits = tt
keeps_source initial before (events.Rollback s) fits = tt
keeps_source initial before (events.Show s n) fits = tt

keeps_value : (initial : List (Cell × Value)) (before : List Event) (e : Event) → Follows initial before e → HasValue initial before e
keeps_value initial before (events.Read s cell from offered word v) fits = fits.3
keeps_value initial before (events.Own s cell v) fits = fits
keeps_value initial before (events.Open s) fits = tt
keeps_value initial before (events.Close s) fits = tt
keeps_value initial before (events.Define s name) fits = tt
keeps_value initial before (events.Look s tables) fits = tt
keeps_value initial before (events.Begin s level) fits = tt
keeps_value initial before (events.Scan s table listed) fits = tt
keeps_value initial before (events.Write s cell v) fits = tt
keeps_value initial before (events.Commit s) fits = tt
keeps_value initial before (events.Rollback s) fits = tt
keeps_value initial before (events.Show s n) fits = tt

-- where a breach tells how many candidates there are, a read was offered some, and no more
no_count : (before : List Event) (e : Event) (breach : Breach) → IsOffered before e → ¬ HasCount before e → IsToldOf before e count breach → ⊥
no_count before (events.Read s cell from offered word v) breach offer broken told =
    let some : word % offered < length offer.0 = slice_get_within offer.0 (word % offered) from offer.3 in
    let all = told.1 in
    let few : length offer.0 ≤ length all.0 =
    rising_short offer.0 all.0 offer.1.ascending all.1.ascending (λ x member. (all.1.exact x).1 ((offer.1.exact x).0 member).0) in
    let size = offer.2 in
    let right = all.2 in
    broken (omega (arith, some, size), (told.0, all, omega (arith, few, size, right)))
no_count before (events.Open s) breach offer broken told = told
no_count before (events.Close s) breach offer broken told = told
no_count before (events.Define s name) breach offer broken told = told
no_count before (events.Look s tables) breach offer broken told = told
no_count before (events.Begin s level) breach offer broken told = told
no_count before (events.Scan s table listed) breach offer broken told = told
no_count before (events.Own s cell v) breach offer broken told = told
no_count before (events.Write s cell v) breach offer broken told = told
no_count before (events.Commit s) breach offer broken told = told
no_count before (events.Rollback s) breach offer broken told = told
no_count before (events.Show s n) breach offer broken told = told

-- ---- the law

event_unbroken :
    (initial : List (Cell × Value)) (all : List Event) (k : ℕ) (e : Event) (rule : Rule) (breach : Breach) → IsFormed initial all → Follows initial (take k all) e →
    IsOffered (take k all) e → ¬ Keeps initial (take k all) e rule → IsToldOf (take k all) e rule breach → ⊥
event_unbroken initial all k e shape breach formed fits offer broken told = broken (keeps_shape initial all k e formed fits)
event_unbroken initial all k e number breach formed fits offer broken told = broken (keeps_number initial (take k all) e fits)
event_unbroken initial all k e keys breach formed fits offer broken told = broken (keeps_keys initial (take k all) e fits)
event_unbroken initial all k e own breach formed fits offer broken told = broken (keeps_own initial (take k all) e fits)
event_unbroken initial all k e source breach formed fits offer broken told = broken (keeps_source initial (take k all) e fits)
event_unbroken initial all k e value breach formed fits offer broken told = broken (keeps_value initial (take k all) e fits)
event_unbroken initial all k e count breach formed fits offer broken told = no_count (take k all) e breach offer broken told

legal_unbroken : (initial : List (Cell × Value)) (all : List Event) (breach : Breach) → IsLegal initial all → IsFirstEventBreach initial all breach → ⊥
legal_unbroken initial all breach legal first =
    event_unbroken initial all first.place first.event first.breach_is.rule breach legal.formed (legal.formed first.place first.event first.is).follows
    (legal.offered first.place first.event first.is) first.breach_is.broken first.breach_is.told

pub legal_trace_unbroken :
    (trace : Trace) (breach : Breach) → IsLegal trace.initial trace.events → Meets trace.events trace.order → IsFirstBreach trace breach → ⊥
legal_trace_unbroken trace breach legal meets (inl event) = legal_unbroken trace.initial trace.events breach legal event
legal_trace_unbroken trace breach legal meets (inr order) = kept_none trace.events trace.order order.1.found meets order.1.first
