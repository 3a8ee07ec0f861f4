-- A history is consistent exactly where its forced pairs have no cycle.
use Rattle.std.proofs.Common.{◌≡◌, ℕ, ◌+◌, ◌<◌, ◌≤◌, List, [], ◌∷◌, ◌++◌, Some, length, get_or, arith, refl, ap, sym, ◌∙◌, subst, inl, inr, ◌⊎◌}
use Rattle.std.proofs.lemmas.List.Elements.{All-contains, Contains-get_or}
use Rattle.std.proofs.lemmas.Option.{slice_get-get_or}
use Rattle.std.proofs.lemmas.Bool.{cases_order, cases_lt}
use Rattle.graph_base.specs.declared.Edge.{Edge}
use Rattle.graph_base.specs.Walk.{HasCycle}
use Rattle.graph_base.specs.Order.{IsOrder, place_of}
use Rattle.graph_base.proofs.Ranks.{no_cycle_extended}
use Rattle.graph_base.proofs.Places.{place_of-first}
use Rattle.history_core.specs.declared.event.Event.{Event}
use Rattle.history_core.specs.declared.event.Event.TheVariants.{Open, Close, Define, Look, Begin, Scan, Read, Own, Write, Commit, Rollback, Show}
use Rattle.history_core.specs.Events.{begun, session_in}
use Rattle.cell_base.specs.declared.cell.Cell.{Cell}
use Rattle.history_core.specs.Transactions.{IsStart, IsCommitted}
use Rattle.history_core.specs.Relations.{Precedes, Reads, IsSessionOrdered, Meets, IsConsistent}
use Rattle.history_core.specs.Forced.{IsForced}
use Rattle.history_core.proofs.Grown.{start_kept}
use Rattle.history_core.proofs.Prefixes.{IsSound, along, begun-push_other, begun-push_start, found_once, start_bounded, start_positive}
use Rattle.history_core.proofs.Offers.{writer_bounded}
use Rattle.history_core.proofs.Next.{pending_begin}
use Rattle.saturation.specs.Laws.{AreForced}
use Rattle.saturation.proofs.Orders.{order_or_cycle}

-- each number has a start
pub start_exists : (events : List Event) (k : ℕ) → 0 < k → k ≤ begun events → (s : ℕ) × ((p : ℕ) × IsStart events k s p)
start_exists events =
    along (λ (h : List Event). (k : ℕ) → 0 < k → k ≤ begun h → (s : ℕ) × ((p : ℕ) × IsStart h k s p))
    (λ h e holds k positive bounded. step h e holds k positive bounded)
    [] events (λ k positive bounded. absurd (omega arith))
  where
    old : (h : List Event) (e : Event) → ((k : ℕ) → 0 < k → k ≤ begun h → (s : ℕ) × ((p : ℕ) × IsStart h k s p)) →
        (k : ℕ) → 0 < k → k ≤ begun h → (s : ℕ) × ((p : ℕ) × IsStart (h ++ e ∷ []) k s p)
    old h e holds k positive bounded =
        let found = holds k positive bounded in (found.0, (found.1.0, start_kept h e k found.0 found.1.0 found.1.1))

    step :
        (h : List Event) (e : Event) → ((k : ℕ) → 0 < k → k ≤ begun h → (s : ℕ) × ((p : ℕ) × IsStart h k s p)) →
        (k : ℕ) → 0 < k → k ≤ begun (h ++ e ∷ []) → (s : ℕ) × ((p : ℕ) × IsStart (h ++ e ∷ []) k s p)
    step h (Begin s level) holds k positive bounded =
        elim (cases_lt (begun h) k) [
          | inr before ↦ old h (Begin s level) holds k positive before
          | inl late ↦
              let more = begun-push_start h s level in
              let is : begun h + 1 ≡ k = omega arith in
              let pending = pending_begin h s level in
              (s, (pending.start, subst (λ (n : ℕ). IsStart (h ++ Begin s level ∷ []) n s pending.start) is pending.starts))
        ]
    step h (Open s) holds k positive bounded = let same = begun-push_other h (Open s) refl in old h (Open s) holds k positive (omega arith)
    step h (Close s) holds k positive bounded = let same = begun-push_other h (Close s) refl in old h (Close s) holds k positive (omega arith)
    step h (Define s name) holds k positive bounded = let same = begun-push_other h (Define s name) refl in old h (Define s name) holds k positive (omega arith)
    step h (Look s count) holds k positive bounded = let same = begun-push_other h (Look s count) refl in old h (Look s count) holds k positive (omega arith)
    step h (Scan s table keys) holds k positive bounded = let same = begun-push_other h (Scan s table keys) refl in old h (Scan s table keys) holds k positive (omega arith)
    step h (Read s x w n u v) holds k positive bounded = let same = begun-push_other h (Read s x w n u v) refl in old h (Read s x w n u v) holds k positive (omega arith)
    step h (Own s x v) holds k positive bounded = let same = begun-push_other h (Own s x v) refl in old h (Own s x v) holds k positive (omega arith)
    step h (Write s x v) holds k positive bounded = let same = begun-push_other h (Write s x v) refl in old h (Write s x v) holds k positive (omega arith)
    step h (Commit s) holds k positive bounded = let same = begun-push_other h (Commit s) refl in old h (Commit s) holds k positive (omega arith)
    step h (Rollback s) holds k positive bounded = let same = begun-push_other h (Rollback s) refl in old h (Rollback s) holds k positive (omega arith)
    step h (Show s number) holds k positive bounded = let same = begun-push_other h (Show s number) refl in old h (Show s number) holds k positive (omega arith)

-- before any other stands the initial transaction
pub initial_ordered : (events : List Event) (a b : ℕ) → a ≡ 0 → 0 < b → b ≤ begun events → IsSessionOrdered events a b
initial_ordered events a b initial positive bounded =
    let found = start_exists events b positive bounded in
    record { earlier = omega arith; place = found.1.0; session = found.0; started = found.1.1; same = inl initial }

-- ---- the numbers of forced pairs

pub committed_bounded : (events : List Event) (n : ℕ) → (n ≡ 0) ⊎ IsCommitted events n → n < begun events + 1
committed_bounded events n (inl initial) = omega arith
committed_bounded events n (inr committed) =
    let of = committed.commit in
    let h : n ≤ begun events = start_bounded events n committed.session of.start of.starts in omega arith

pub reader_bounded : (events : List Event) (reader place : ℕ) (cell : Cell) (source : ℕ) → Reads events reader place cell source → reader ≤ begun events
reader_bounded events reader place cell source reads =
    start_bounded events reader (session_in reads.event) reads.of_reader.start reads.of_reader.starts

pub reader_positive : (events : List Event) (reader place : ℕ) (cell : Cell) (source : ℕ) → Reads events reader place cell source → 0 < reader
reader_positive events reader place cell source reads = start_positive events reader (session_in reads.event) reads.of_reader.start reads.of_reader.starts

pub precedes_range : (events : List Event) → IsSound events → (a b : ℕ) → Precedes events a b → (a < begun events + 1) × (0 < b) × (b < begun events + 1)
precedes_range events sound a b (inl so) =
    let h : b ≤ begun events = start_bounded events b so.session so.place so.started in
    let e = so.earlier in (omega arith, omega arith, omega arith)
precedes_range events sound a b (inr wr) =
    let positive : 0 < b = reader_positive events b wr.place wr.cell a wr.reads in
    let h = reader_bounded events b wr.place wr.cell a wr.reads in
    (committed_bounded events a (sound.sources b wr.place wr.cell a wr.reads), positive, omega arith)

pub forced_range : (events : List Event) → IsSound events → (a b : ℕ) → IsForced events a b → (a < begun events + 1) × (b < begun events + 1)
forced_range events sound a b (inl precedes) = let range = precedes_range events sound a b precedes in (range.0, range.2)
forced_range events sound a b (inr d) = (writer_bounded events a d.cell d.writes, committed_bounded events b (sound.sources d.reader d.place d.cell b d.reads))

-- all that is forced of the initial transaction is session order
pub forced_initial : (events : List Event) (a b : ℕ) → a ≡ 0 → b ≤ begun events → IsForced events a b → IsSessionOrdered events a b
forced_initial events a b initial bounded (inl (inl so)) = so
forced_initial events a b initial bounded (inl (inr wr)) =
    initial_ordered events a b initial (reader_positive events b wr.place wr.cell a wr.reads) bounded
forced_initial events a b initial bounded (inr d) =
    let other = d.other in
    let apart : b ≡ 0 → ⊥ = λ same. other (initial ∙ sym same) in
    initial_ordered events a b initial (omega arith) bounded

-- ---- orders and cycles

-- an order that extends the pairs meets the history
pub meets_from_order :
    (events : List Event) (edges : List Edge) (order : List ℕ) → AreForced events edges → IsOrder (begun events + 1) edges order → Meets events order
meets_from_order events edges order list is =
    let rises : (a b : ℕ) → IsForced events a b → place_of order a < place_of order b =
    λ a b f.
    let found = list.whole a b f in
    let up : place_of order found.0.before < place_of order found.0.after =
    All-contains (λ e. place_of order e.before < place_of order e.after) edges found.0 is.extends found.1.0 in
    let at_a : place_of order found.0.before ≡ place_of order a = ap (λ (n : ℕ). place_of order n) found.1.1 in
    let at_b : place_of order found.0.after ≡ place_of order b = ap (λ (n : ℕ). place_of order n) found.1.2 in
    omega arith
    in
    let some : 0 < length order = let h = found_once (begun events + 1) order is.holds 0 (omega arith) in omega arith in
    let small : get_or order 0 0 < begun events + 1 =
    All-contains (λ n. n < begun events + 1) order (get_or order 0 0) is.holds.below (Contains-get_or order 0 0 some) in
    let at_front : place_of order (get_or order 0 0) ≤ 0 = place_of-first order 0 (get_or order 0 0) 0 some refl in
    record {
      holds = is.holds;
      first = elim (cases_order (get_or order 0 0) 0) [
        | inl initial ↦ slice_get-get_or order 0 0 some ∙ ap (λ (n : ℕ). Some n) initial
        | inr apart ↦ elim apart [
          | inl less ↦ absurd (omega arith)
          | inr more ↦
              let up : place_of order 0 < place_of order (get_or order 0 0) =
              rises 0 (get_or order 0 0) (inl (inl (initial_ordered events 0 (get_or order 0 0) refl more (omega arith)))) in
              absurd (omega arith)
        ]
      ];
      precedes = λ a b p. rises a b (inl p);
      demands = λ a b d. rises a b (inr d);
    }

-- and an order that meets the history extends the pairs
pub order_from_meets :
    (events : List Event) (edges : List Edge) (order : List ℕ) → AreForced events edges → Meets events order → IsOrder (begun events + 1) edges order
order_from_meets events edges order list meets = record {
  holds = meets.holds;
  extends = λ k d within. elim (list.sound (get_or edges k d) (Contains-get_or edges k d within)) [
    | inl before ↦ meets.precedes (get_or edges k d).before (get_or edges k d).after before
    | inr demanded ↦ meets.demands (get_or edges k d).before (get_or edges k d).after demanded
  ];
}

pub consistent_no_cycle : (events : List Event) (edges : List Edge) → AreForced events edges → IsConsistent events → HasCycle edges → ⊥
consistent_no_cycle events edges list (order, meets) (cycle, is) =
    no_cycle_extended edges order (order_from_meets events edges order list meets).extends cycle is

pub consistent_from_no_cycle : (events : List Event) (edges : List Edge) → AreForced events edges → (HasCycle edges → ⊥) → IsConsistent events
consistent_from_no_cycle events edges list none =
    elim (order_or_cycle (begun events + 1) edges list.in_range) [
      | inl order ↦ (order.0, meets_from_order events edges order.0 list order.1)
      | inr cycle ↦ absurd (none cycle)
    ]
