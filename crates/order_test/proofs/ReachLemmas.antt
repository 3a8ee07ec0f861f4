-- How far the committed writers of each cell reach in the order.
use Rattle.std.proofs.Common.{◌≡◌, ℕ, ◌+◌, ◌-◌, ◌<◌, ◌≤◌, List, [], ◌∷◌, ◌++◌, length, get_or, Some, arith, refl, ap, sym, ◌∙◌, subst, inl, inr}
use Rattle.std.specs.List.{Contains, slice_get}
use Rattle.std.specs.List.Sorted.{IsStrictlyIncreasing}
use Rattle.std.proofs.lemmas.Bool.{cases_lt}
use Rattle.std.proofs.lemmas.List.{length_push, get_or_append_left, get_or_push, get_or_default}
use Rattle.std.proofs.lemmas.Option.{slice_get_within, slice_get_cases}
use Rattle.graph_base.specs.Order.{place_of}
use Rattle.graph_base.proofs.Fronts.{contains_from_once}
use Rattle.graph_base.proofs.Places.{get_or-place_of, place_of-contained}
use Rattle.cell_base.specs.declared.cell.Cell.{Cell}
use Rattle.cell_base.specs.declared.value.Value.{Value}
use Rattle.history_core.specs.declared.event.Event.{Event}
use Rattle.history_core.specs.declared.event.Event.TheVariants.{Read}
use Rattle.history_core.specs.Events.{begun}
use Rattle.history_core.specs.Relations.{Writes}
use Rattle.indexed_history.proofs.Ascending.{increasing_less, get_contained}
use Rattle.cell_writers.specs.declared.cell_note.CellNote.{CellNote}
use Rattle.cell_writers.specs.declared.cell_note.CellNotes.{CellNotes}
use Rattle.cell_writers.specs.Numbered.{AreWriters, cell_in}
use Rattle.order_test.specs.declared.reaches.CellReaches.{CellReaches}
use Rattle.order_test.specs.Glance.{IsLimitOf}
use Rattle.order_test.specs.Places.{ArePlaces}
use Rattle.order_test.specs.Sights.{IsReadAt}
use Rattle.order_test.specs.Listed.{HasNoRival}
use Rattle.order_test.specs.Unkept.{HoldsAll, HoldsTransactions}
use Rattle.order_test.specs.Reaches.{IsReach, AddsReach, AreReachesUpTo, AreReaches, StandNoFurther}
use Rattle.order_test.proofs.SearchLemmas.{rival_bounds}
use Rattle.order_test.proofs.QuickLemmas.{visible_is_causal, read_cell}

-- ---- the numbers of one cell

-- so many have been put, and the last place is none before those of the numbers so far
pub record AddsUpTo (places numbers : List ℕ) (n : ℕ) (old new : List ℕ) (top : ℕ) : Type 0 where
  pub adds : AddsReach places numbers n old new
  pub high : (i : ℕ) → i < n → get_or places (get_or numbers i 0) 0 ≤ top

pub adds_none : (places numbers old : List ℕ) → AddsUpTo places numbers 0 old old 0
adds_none places numbers old = record {
  adds = record {
    count = omega arith;
    kept = λ k below. refl;
    reach = record { within = omega arith; reach = λ i k order below. absurd (omega arith) };
  };
  high = λ i below. absurd (omega arith);
}

pub adds_more :
    (places numbers : List ℕ) (n : ℕ) (old new : List ℕ) (top next : ℕ) → top ≤ next → get_or places (get_or numbers n 0) 0 ≤ next → AddsUpTo places numbers n old new top →
    AddsUpTo places numbers (n + 1) old (new ++ next ∷ []) next
adds_more places numbers n old new top next up here before =
    let count = before.adds.count in
    let long : length (new ++ next ∷ []) ≡ length new + 1 = length_push new next in
    let left : (k : ℕ) → k < length new → get_or (new ++ next ∷ []) k 0 ≡ get_or new k 0 = λ k below. get_or_append_left new (next ∷ []) 0 k below in
    let high : (i : ℕ) → i < n + 1 → get_or places (get_or numbers i 0) 0 ≤ next =
    λ i below. elim (cases_lt i n) [
      | inl earlier ↦ let h = before.high i earlier in omega arith
      | inr last ↦
          let same : i ≡ n = omega arith in
          let value : get_or places (get_or numbers i 0) 0 ≡ get_or places (get_or numbers n 0) 0 = ap (λ (j : ℕ). get_or places (get_or numbers j 0) 0) same in omega arith
    ]
    in
    record {
      adds = record {
        count = omega arith;
        kept = λ k below. left k (omega arith) ∙ before.adds.kept k below;
        reach = record {
          within = omega arith;
          reach = λ i k order below. elim (cases_lt k n) [
            | inl earlier ↦ let value = left (length old + k) (omega arith) in let h = before.adds.reach.reach i k order earlier in omega arith
            | inr last ↦
                let value : get_or (new ++ next ∷ []) (length old + k) 0 ≡ next = get_or_push new next 0 (length old + k) (omega arith) in
                let h = high i (omega arith) in omega arith
          ];
        };
      };
      high = high;
    }

-- what stands at a place
pub value_at : (xs : List ℕ) (i value : ℕ) → i < length xs → value ≡ get_or xs i value → get_or xs i 0 ≡ value
value_at xs i value within is = get_or_default xs i 0 value within ∙ sym is

-- ---- the cells

pub reaches_none : (places : List ℕ) (notes : List CellNote) (reaches : CellReaches) → length reaches.starts.items ≡ 0 → AreReachesUpTo places notes 0 reaches
reaches_none places notes reaches none = record { count = none; each = λ at note below. absurd (omega arith) }

pub reaches_more :
    (places : List ℕ) (notes : List CellNote) (n : ℕ) (note : CellNote) (old new : CellReaches) → slice_get notes n ≡ Some note →
    new.starts.items ≡ old.starts.items ++ length old.highest.items ∷ [] → AddsReach places note.committed (length note.committed) old.highest.items new.highest.items →
    AreReachesUpTo places notes n old → AreReachesUpTo places notes (n + 1) new
reaches_more places notes n note old new at starts adds before =
    let count = before.count in
    let long : length new.starts.items ≡ length old.starts.items + 1 = ap length starts ∙ length_push old.starts.items (length old.highest.items) in
    record {
      count = omega arith;
      each = λ k other below is. elim (cases_lt k n) [
        | inl earlier ↦
            let start : get_or new.starts.items k 0 ≡ get_or old.starts.items k 0 =
            ap (λ (xs : List ℕ). get_or xs k 0) starts ∙ get_or_append_left old.starts.items (length old.highest.items ∷ []) 0 k (omega arith)
            in
            subst (λ (s : ℕ). IsReach places other.committed new.highest.items s) (sym start)
            (kept other.committed (get_or old.starts.items k 0) (before.each k other earlier is))
        | inr last ↦
            let same : k ≡ n = omega arith in
            let both : Some other ≡ Some note = sym is ∙ ap (λ (i : ℕ). slice_get notes i) same ∙ at in
            let one : other ≡ note = cc in
            let start : get_or new.starts.items k 0 ≡ length old.highest.items =
            ap (λ (xs : List ℕ). get_or xs k 0) starts ∙ get_or_push old.starts.items (length old.highest.items) 0 k (omega arith)
            in
            subst (λ (s : ℕ). IsReach places other.committed new.highest.items s) (sym start)
            (subst (λ (c : CellNote). IsReach places c.committed new.highest.items (length old.highest.items)) (sym one) adds.reach)
      ];
    }
  where
    kept : (ns : List ℕ) (start : ℕ) → IsReach places ns old.highest.items start → IsReach places ns new.highest.items start
    kept ns start is =
        let inside = is.within in
        let grown = adds.count in
        record {
          within = omega arith;
          reach = λ i k order below.
              let same = adds.kept (start + k) (omega arith) in
              let h = is.reach i k order below in omega arith;
        }

-- the reach of the cell of a number
pub reach_of :
    (places : List ℕ) (cells : CellNotes) (reaches : CellReaches) → AreReaches places cells reaches → (at : ℕ) (note : CellNote) → slice_get cells.notes.items at ≡ Some note →
    (ns highest : List ℕ) (start : ℕ) → ns ≡ note.committed → highest ≡ reaches.highest.items → start ≡ get_or reaches.starts.items at start → IsReach places ns highest start
reach_of places cells reaches are at note is ns highest start same high value =
    let inside = slice_get_within cells.notes.items at note is in
    let count = are.count in
    let start_is : get_or reaches.starts.items at 0 ≡ start = get_or_default reaches.starts.items at 0 start (omega arith) ∙ sym value in
    subst (λ (xs : List ℕ). IsReach places xs highest start) (sym same)
    (subst (λ (hs : List ℕ). IsReach places note.committed hs start) (sym high)
    (subst (λ (s : ℕ). IsReach places note.committed reaches.highest.items s) start_is (are.each at note inside is)))

-- ---- how far those up to a limit reach

pub no_further_at :
    (places numbers highest : List ℕ) (start limit from at : ℕ) → IsStrictlyIncreasing numbers → IsReach places numbers highest start → at < length numbers → get_or numbers at 0 ≡ limit →
    get_or highest (start + at) 0 ≤ get_or places from 0 → StandNoFurther places numbers limit from
no_further_at places numbers highest start limit from at rises reach within is up number there less =
    let place = get_contained numbers number there in
    let inside = place.1 in
    let value = place.2 in
    let named : get_or places (get_or numbers place.0 0) 0 ≡ get_or places number 0 = ap (λ (n : ℕ). get_or places n 0) value in
    elim (cases_lt at place.0) [
      | inl later ↦ let h = increasing_less numbers rises at place.0 later inside in absurd (omega arith)
      | inr not_later ↦
          let h : get_or places (get_or numbers place.0 0) 0 ≤ get_or highest (start + at) 0 = reach.reach place.0 at (omega arith) within in omega arith
    ]

pub no_further_before :
    (places numbers highest : List ℕ) (start limit from at : ℕ) → IsReach places numbers highest start → at ≤ length numbers →
    ((k : ℕ) → at ≤ k → k < length numbers → limit < get_or numbers k 0) → (0 < at → get_or highest (start + at - 1) 0 ≤ get_or places from 0) → StandNoFurther places numbers limit from
no_further_before places numbers highest start limit from at reach within above up number there less =
    let place = get_contained numbers number there in
    let inside = place.1 in
    let value = place.2 in
    let named : get_or places (get_or numbers place.0 0) 0 ≡ get_or places number 0 = ap (λ (n : ℕ). get_or places n 0) value in
    elim (cases_lt place.0 at) [
      | inl before ↦
          let h : get_or places (get_or numbers place.0 0) 0 ≤ get_or highest (start + (at - 1)) 0 = reach.reach place.0 (at - 1) (omega arith) (omega arith) in
          let index : start + (at - 1) ≡ start + at - 1 = omega arith in
          let same : get_or highest (start + (at - 1)) 0 ≡ get_or highest (start + at - 1) 0 = ap (λ (i : ℕ). get_or highest i 0) index in
          let u = up (omega arith) in omega arith
      | inr not_before ↦ let h = above place.0 (omega arith) inside in absurd (omega arith)
    ]

-- where two that the order holds have one place they are the same
one_place : (size : ℕ) (order : List ℕ) → HoldsAll size order → (a b : ℕ) → a < size → b < size → place_of order a ≡ place_of order b → a ≡ b
one_place size order holds a b small_a small_b same =
    let in_a : place_of order a < length order = place_of-contained order a (contains_from_once size order holds.once a small_a) in
    let in_b : place_of order b < length order = place_of-contained order b (contains_from_once size order holds.once b small_b) in
    let at_a : get_or order (place_of order a) 0 ≡ a = get_or-place_of order a 0 in_a in
    let at_b : get_or order (place_of order b) 0 ≡ b = get_or-place_of order b 0 in_b in
    sym at_a ∙ ap (λ (k : ℕ). get_or order k 0) same ∙ at_b

-- a later writer of the cell of a number is noted there
pub noted_at :
    (events : List Event) (cells : CellNotes) → AreWriters events cells → (at : ℕ) (cell : Cell) → slice_get cells.numbers.cells.keys at ≡ Some cell → (other : ℕ) → 0 < other →
    Writes events other cell → (note : CellNote) → slice_get cells.notes.items at ≡ Some note → Contains note.committed other
noted_at events cells wrote at cell here other low writes note is = (wrote.exact at cell note other here is).1 (low, writes)

-- each number of a cell has a note
pub has_note :
    (events : List Event) (cells : CellNotes) → AreWriters events cells → (at : ℕ) (cell : Cell) → slice_get cells.numbers.cells.keys at ≡ Some cell →
    (note : CellNote) × (slice_get cells.notes.items at ≡ Some note)
has_note events cells wrote at cell here =
    let within = slice_get_within cells.numbers.cells.keys at cell here in
    let count = wrote.count in
    elim (slice_get_cases cells.notes.items at).1 [ inl found ↦ (found.0, found.2) | inr none ↦ let h = none.0 in absurd (omega arith) ]

-- the number that stands at an event is that of its cell
pub number_here :
    (events : List Event) (cells : CellNotes) → AreWriters events cells → (place : ℕ) (e : Event) (cell : Cell) (number : ℕ) → slice_get events place ≡ Some e → cell_in e ≡ Some cell →
    number ≡ get_or cells.numbers.of_events.items place number → slice_get cells.numbers.cells.keys number ≡ Some cell
number_here events cells wrote place e cell number at of is =
    let within = slice_get_within events place e at in
    let long = wrote.numbered.long in
    let value = value_at cells.numbers.of_events.items place number (omega arith) is in
    subst (λ (n : ℕ). slice_get cells.numbers.cells.keys n ≡ Some cell) value (wrote.numbered.each place e cell at of)

pub reached_clear :
    (events : List Event) (order places : List ℕ) → HoldsTransactions events order → ArePlaces (begun events + 1) order places → (cells : CellNotes) → AreWriters events cells →
    (s : ℕ) (cell : Cell) (from count word : ℕ) (value : Value) (place reader : ℕ) → IsReadAt events place (Read s cell from count word value) reader → (limit at : ℕ) →
    slice_get cells.numbers.cells.keys at ≡ Some cell → IsLimitOf events reader limit →
    ((note : CellNote) → slice_get cells.notes.items at ≡ Some note → StandNoFurther places note.committed limit from) →
    HasNoRival events order place (Read s cell from count word value) reader
reached_clear events order places holds are cells wrote s cell from count word value place reader read limit at here is_limit stand other rival =
    let bounds = rival_bounds events order place (Read s cell from count word value) reader other holds read rival in
    let low = bounds.0 in
    let high = bounds.1 in
    let unmet = rival.1 in
    let causal = visible_is_causal events reader place other unmet.visible.level unmet.visible.sees in
    let same_cell = read_cell events order s cell from count word value place reader other rival.0 read unmet in
    let writes : Writes events other cell = subst (λ (c : Cell). Writes events other c) (sym same_cell) unmet.writes in
    let found = has_note events cells wrote at cell here in
    let stands : get_or places other 0 ≤ get_or places from 0 =
    stand found.0 found.1 other (noted_at events cells wrote at cell here other low writes found.0 found.1) (is_limit other causal)
    in
    let first : get_or places other 0 ≡ place_of order other = are.each other (omega arith) in
    let from_in = read.from in
    let second : get_or places from 0 ≡ place_of order from = are.each from (omega arith) in
    elim (cases_lt (place_of order other) (place_of order from)) [
      | inl before ↦ unmet.late before
      | inr not_before ↦ unmet.other (one_place (begun events + 1) order holds other from (omega arith) (omega arith) (omega arith))
    ]
