-- What the notes of the reads show of the order, once all events are there.
use Rattle.std.proofs.Common.{◌≡◌, ℕ, ◌+◌, ◌<◌, ◌≤◌, List, [], Some, length, get_or, arith, ap, sym, subst, inl, inr, IsTrue}
use Rattle.std.specs.List.{slice_get}
use Rattle.std.proofs.lemmas.Bool.{cases_lt}
use Rattle.std.proofs.lemmas.Option.{slice_get_cases, slice_get_within}
use Rattle.graph_base.specs.Order.{place_of}
use Rattle.cell_base.specs.declared.cell.Cell.{Cell}
use Rattle.cell_base.specs.declared.value.Value.{Value}
use Rattle.history_core.specs.declared.event.Event.{Event}
use Rattle.history_core.specs.declared.event.Event.TheVariants.{Open, Close, Define, Look, Begin, Scan, Read, Own, Write, Commit, Rollback, Show}
use Rattle.history_core.specs.Events.{begun}
use Rattle.history_core.specs.Transactions.{IsPending}
use Rattle.history_core.specs.Relations.{Writes, Meets}
use Rattle.history_core.proofs.Offers.{same_place}
use Rattle.order_test.specs.Listed.{HasNoRival}
use Rattle.order_test.specs.Places.{ArePlaces}
use Rattle.order_test.specs.Settled.{IsOrderly}
use Rattle.order_test.specs.Sights.{IsReadAt}
use Rattle.order_test.specs.Unkept.{HoldsAll, HoldsTransactions, StandsBefore, IsKeptAt}
use Rattle.order_test.proofs.GlanceLemmas.{stands_from}
use Rattle.order_test.proofs.QuickLemmas.{read_cell}
use Rattle.order_test.proofs.SearchLemmas.{rival_bounds, none_early, unmet_here, kept_without_read, kept_all, meets_from_kept}
use Rattle.history_check.proofs.Orderly.{orderly_from}
use Rattle.right_logs.specs.declared.open_reads.ReadNote.{ReadNote}
use Rattle.right_logs.specs.declared.pass.Pass.{Pass}
use Rattle.right_logs.specs.OpenReads.{HasReadNote, IsKeptRead}
use Rattle.right_logs.specs.Judging.{IsKeptSession}
use Rattle.right_logs.specs.Passes.{StandsFor}
use Rattle.right_logs.proofs.Judged.{kept_from_notes}
use Rattle.right_logs.proofs.Still.{pending_from}

-- ---- what each event asks

-- the order stands at the places, and so does what the pass has noted of the events; all is met, and each session is kept
record IsMetBy (order places : List ℕ) (events : List Event) (pass : Pass) : Type 0 where
  pub stands : StandsFor order places events pass
  pub holds : HoldsTransactions events order
  pub placed : ArePlaces (begun events + 1) order places
  pub met : IsTrue pass.met
  pub sessions : (at : ℕ) → at < length pass.reads.items → IsKeptSession places pass (at + 1)

-- a rival writes the cell and is seen, so it doesn't stand after the source; nor does it stand before it or at its place
kept_clear :
    (events : List Event) (order places : List ℕ) → HoldsTransactions events order → ArePlaces (begun events + 1) order places → (place s : ℕ) (cell : Cell) (source count word : ℕ)
    (value : Value) (reader : ℕ) → IsKeptRead places events place s cell source count word value reader →
    HasNoRival events order place (Read s cell source count word value) reader
kept_clear events order places holds are place s cell source count word value reader kept other rival =
    let read : IsReadAt events place (Read s cell source count word value) reader = kept.read in
    let bounds = rival_bounds events order place (Read s cell source count word value) reader other holds read rival in
    let low : 0 < other = bounds.0 in
    let high : other ≤ begun events = bounds.1 in
    let unmet = rival.1 in
    let same_cell = read_cell events order s cell source count word value place reader other rival.0 read unmet in
    let writes : Writes events other cell = subst (λ (c : Cell). Writes events other c) (sym same_cell) unmet.writes in
    let stands : get_or places other 0 ≤ get_or places source 0 = kept.clear other low unmet.visible writes in
    let first : get_or places other 0 ≡ place_of order other = are.each other (omega arith) in
    let source_in : source ≤ begun events = read.from in
    let second : get_or places source 0 ≡ place_of order source = are.each source (omega arith) in
    elim (cases_lt (place_of order other) (place_of order source)) [
      | inl before ↦ unmet.late before
      | inr not_before ↦ unmet.other (same_place (begun events + 1) order holds.once other source (omega arith) (omega arith) (omega arith))
    ]

kept_read :
    (order places : List ℕ) (events : List Event) (pass : Pass) → IsMetBy order places events pass → (place s : ℕ) (cell : Cell) (source count word : ℕ) (value : Value)
    (reader : ℕ) → IsKeptRead places events place s cell source count word value reader → IsKeptAt events order place
kept_read order places events pass all place s cell source count word value reader kept =
    let event : Event = Read s cell source count word value in
    let orderly : IsOrderly events = orderly_from [] events all.stands.right in
    let read : IsReadAt events place event reader = kept.read in
    let before : StandsBefore order source reader = stands_from (begun events + 1) order places all.placed source reader kept.before in
    let clear : HasNoRival events order place event reader =
    kept_clear events order places all.holds all.placed place s cell source count word value reader kept
    in
    record {
      reads = none_early events order place event reader orderly read (λ late. late before);
      sights = λ from rival by other unmet. clear rival (other, unmet_here events order place event reader orderly read from rival by other unmet);
    }

-- the session of a read that is noted has reads, so they are those of its pending transaction
kept_noted :
    (order places : List ℕ) (events : List Event) (pass : Pass) → IsMetBy order places events pass → (place s : ℕ) (cell : Cell) (source count word : ℕ) (value : Value) →
    HasReadNote events pass.cells.numbers.cells.keys pass.reads.items place s cell source count word value → IsKeptAt events order place
kept_noted order places events pass all place s cell source count word value has =
    let within : has.are.place < length pass.reads.items = slice_get_within pass.reads.items has.are.place has.are.list has.are.is in
    let session : IsKeptSession places pass s = subst (λ (m : ℕ). IsKeptSession places pass m) has.are.number (all.sessions has.are.place within) in
    elim (session has.reads has.are) [
      | inl none ↦
          let some : has.k < length has.reads = slice_get_within has.reads has.k has.note has.noted in
          let size : length has.reads ≡ 0 = ap (λ (notes : List ReadNote). length notes) none in
          absurd (omega arith)
      | inr kept ↦
          let reader : ℕ = kept.0 in
          let pending : IsPending events reader s = pending_from events pass.session_notes.items s reader all.stands.session_notes kept.1.0 in
          let one = kept.1.1 has.k has.note has.noted in
          kept_read order places events pass all place s cell source count word value reader
          (kept_from_notes order places events pass all.stands s reader pending all.met has.reads has.are place s cell source count word value has.note has.of one.0 one.1)
    ]

kept_event :
    (order places : List ℕ) (events : List Event) (pass : Pass) → IsMetBy order places events pass → (place : ℕ) (event : Event) → slice_get events place ≡ Some event →
    IsKeptAt events order place
kept_event order places events pass all place (Read s cell source count word value) is =
    elim (all.stands.sights.reads all.met place s cell source count word value is) [
      | inl noted ↦ kept_noted order places events pass all place s cell source count word value noted
      | inr settled ↦ kept_read order places events pass all place s cell source count word value settled.reader settled.kept
    ]
kept_event order places events pass all place (Scan s table keys) is = absurd (all.stands.no_scan place (Scan s table keys) is tt)
kept_event order places events pass all place (Open s) is = kept_without_read events order place (Open s) is (λ reads. reads)
kept_event order places events pass all place (Close s) is = kept_without_read events order place (Close s) is (λ reads. reads)
kept_event order places events pass all place (Define s name) is = kept_without_read events order place (Define s name) is (λ reads. reads)
kept_event order places events pass all place (Look s tables) is = kept_without_read events order place (Look s tables) is (λ reads. reads)
kept_event order places events pass all place (Begin s level) is = kept_without_read events order place (Begin s level) is (λ reads. reads)
kept_event order places events pass all place (Own s cell value) is = kept_without_read events order place (Own s cell value) is (λ reads. reads)
kept_event order places events pass all place (Write s cell value) is = kept_without_read events order place (Write s cell value) is (λ reads. reads)
kept_event order places events pass all place (Commit s) is = kept_without_read events order place (Commit s) is (λ reads. reads)
kept_event order places events pass all place (Rollback s) is = kept_without_read events order place (Rollback s) is (λ reads. reads)
kept_event order places events pass all place (Show s number) is = kept_without_read events order place (Show s number) is (λ reads. reads)

kept_each : (order places : List ℕ) (events : List Event) (pass : Pass) → IsMetBy order places events pass → (place : ℕ) → IsKeptAt events order place
kept_each order places events pass all = kept_all events order (length events) (omega arith) (λ earlier below.
    elim (slice_get_cases events earlier).1 [
      | inl found ↦ kept_event order places events pass all earlier found.0 found.2
      | inr beyond ↦ let none = beyond.0 in absurd (omega arith)
    ])

-- ---- the whole order

-- as many transactions have begun as the order has places for
pub meets_from_notes : (order places : List ℕ) (events : List Event) (pass : Pass) → length pass.txns.items ≡ length places → IsTrue pass.met →
    ((at : ℕ) → at < length pass.reads.items → IsKeptSession places pass (at + 1)) → HoldsAll (length places) order → StandsFor order places events pass → Meets events order
meets_from_notes order places events pass same met sessions holds stands =
    let begun_are : length pass.txns.items ≡ begun events + 1 = stands.sights.txns.count in
    let size : length places ≡ begun events + 1 = omega arith in
    let all : HoldsTransactions events order = subst (λ (n : ℕ). HoldsAll n order) size holds in
    meets_from_kept events order all stands.keeps
    (kept_each order places events pass record {
      stands = stands;
      holds = all;
      placed = subst (λ (n : ℕ). ArePlaces n order places) size stands.placed;
      met = met;
      sessions = sessions;
    })
