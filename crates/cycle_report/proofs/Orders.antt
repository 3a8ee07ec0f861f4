-- Orders that meet a history at a level, and cycles that exclude them.
use Rattle.std.proofs.Common.{◌≡◌, ◌⊎◌, ℕ, ◌+◌, ◌<◌, ◌≤◌, zero, suc, List, [], ◌∷◌, Some, length, get_or, map, take, arith, refl, ap, sym, ◌∙◌, subst, inl, inr}
use Rattle.std.specs.List.{slice_get}
use Rattle.std.proofs.lemmas.List.Elements.{All-contains, Contains-get_or}
use Rattle.std.proofs.lemmas.Option.{slice_get_within, slice_get-get_or, slice_get_cases}
use Rattle.std.proofs.lemmas.Bool.{cases_order, cases_lt}
use Rattle.graph_base.specs.declared.Edge.{Edge}
use Rattle.graph_base.specs.Order.{IsOrder, HoldsEachOnce, place_of}
use Rattle.graph_base.specs.LeastOrder.{PlacesLeast, RisesAlong}
use Rattle.graph_base.specs.Closure.{HasEdge}
use Rattle.graph_base.proofs.Ranks.{no_cycle_extended}
use Rattle.graph_base.proofs.Places.{place_of-first}
use Rattle.graph_base.proofs.Chains.{chained_rises}
use Rattle.graph_base.proofs.LeastOrders.{follows_in_order, follow_same, places_pairs}
use Rattle.order_witness.specs.Verdict.{HasLeastOrder}
use Rattle.cell_base.specs.declared.level.Level.{Level}
use Rattle.cell_base.specs.declared.cell.Cell.{Cell}
use Rattle.history_core.specs.declared.event.Event.{Event}
use Rattle.history_core.specs.declared.event.Event.TheVariants.{Open, Close, Define, Look, Begin, Scan, Read, Own, Write, Commit, Rollback, Show}
use Rattle.history_core.specs.Events.{begun, session_in}
use Rattle.history_core.specs.Transactions.{IsOf, RunsAt}
use Rattle.history_core.specs.Relations.{Gives, Reads, Precedes, PrecedesCausally, IsSessionOrdered, IsVisibleAt, Meets}
use Rattle.history_core.specs.Forced.{IsPairList}
use Rattle.history_core.proofs.Places.{begun-take_all, runs_of}
use Rattle.history_core.proofs.Prefixes.{found_once, start_bounded, start_positive}
use Rattle.history_core.proofs.Offers.{writer_bounded}
use Rattle.saturation.proofs.Decides.{initial_ordered, committed_bounded}
use Rattle.saturation.proofs.Sights.{writes_later}
use Rattle.order_test.specs.Settled.{IsOrderly, HasSettledSource}
use Rattle.order_test.specs.Sights.{IsReading, origin_of}
use Rattle.order_test.proofs.SearchLemmas.{gives_origin}
use Rattle.cycle_report.specs.declared.judgement.Reason.{Reason}
use Rattle.cycle_report.specs.declared.judgement.Reason.TheVariants as reasons
use Rattle.cycle_report.specs.declared.judgement.Step.{Step}
use Rattle.cycle_report.specs.Reasons.{IsReadFromAt, IsDemandedAt, HasReason, IsAsked}
use Rattle.cycle_report.specs.declared.pasts.Past.{Past}
use Rattle.cycle_report.specs.declared.pasts.Pasts.{Pasts}
use Rattle.cycle_report.specs.Pasts.{ArePasts}
use Rattle.cycle_report.specs.Views.{DemandsAt, IsListedAt, IsListed}
use Rattle.cycle_report.specs.Judged.{MeetsAt, IsOrderAt, IsCycleAt, edges_of}
use Rattle.cycle_report.proofs.Neighbours.{next_less, next_ordered, sessions_rise}

-- ---- reads, by their events

gives_reading : (e : Event) (cell : Cell) (from : ℕ) → Gives e cell from → IsReading e
gives_reading (Read s x w n u v) cell from gives = tt
gives_reading (Scan s table keys) cell from gives = tt
gives_reading (Open s) cell from gives = gives
gives_reading (Close s) cell from gives = gives
gives_reading (Define s name) cell from gives = gives
gives_reading (Look s count) cell from gives = gives
gives_reading (Begin s level) cell from gives = gives
gives_reading (Own s x v) cell from gives = gives
gives_reading (Write s x v) cell from gives = gives
gives_reading (Commit s) cell from gives = gives
gives_reading (Rollback s) cell from gives = gives
gives_reading (Show s number) cell from gives = gives

pub read_from_reads : (events : List Event) (reader place : ℕ) (cell : Cell) (source : ℕ) → Reads events reader place cell source → IsReadFromAt events place source reader
read_from_reads events reader place cell source reads = record {
  event = reads.event;
  of_reader = reads.of_reader;
  reading = gives_reading reads.event cell source reads.gives;
  source_is = gives_origin reads.event cell source reads.gives;
}

origin_small : (events : List Event) (place : ℕ) (e : Event) → HasSettledSource (take place events) e → origin_of e ≤ begun events
origin_small events place (Read s x w n u v) source =
    let h = committed_bounded (take place events) w source in
    let all = begun-take_all events place in omega arith
origin_small events place (Scan s table keys) source = omega arith
origin_small events place (Open s) source = omega arith
origin_small events place (Close s) source = omega arith
origin_small events place (Define s name) source = omega arith
origin_small events place (Look s count) source = omega arith
origin_small events place (Begin s level) source = omega arith
origin_small events place (Own s x v) source = omega arith
origin_small events place (Write s x v) source = omega arith
origin_small events place (Commit s) source = omega arith
origin_small events place (Rollback s) source = omega arith
origin_small events place (Show s number) source = omega arith

pub source_small : (events : List Event) → IsOrderly events → (place source reader : ℕ) → IsReadFromAt events place source reader → source ≤ begun events
source_small events orderly place source reader read =
    let h = origin_small events place read.event (orderly place read.event read.of_reader.is).source in
    let same = read.source_is in omega arith

pub reader_small : (events : List Event) (place source reader : ℕ) → IsReadFromAt events place source reader → (0 < reader) × (reader ≤ begun events)
reader_small events place source reader read =
    let of = read.of_reader in
    (start_positive events reader (session_in read.event) of.start of.starts, start_bounded events reader (session_in read.event) of.start of.starts)

pub read_place : (events : List Event) (place source reader : ℕ) → IsReadFromAt events place source reader → place < length events
read_place events place source reader read = slice_get_within events place read.event read.of_reader.is

pub demand_read :
    (level : Level) (events : List Event) (place : ℕ) (cell : Cell) (a b : ℕ) → (d : IsDemandedAt level events place cell a b) → IsReadFromAt events place b d.reader
demand_read level events place cell a b d = read_from_reads events d.reader place cell b d.reads

-- ---- pairs that are listed

pub listed_read : (level : Level) (events : List Event) (place a b : ℕ) → IsReadFromAt events place a b → IsListed level events a b
listed_read level events place a b read = inr record { place = place; below = read_place events place a b read; listed = inl read }

pub listed_demand :
    (level : Level) (events : List Event) (place : ℕ) (cell : Cell) (a b : ℕ) → 0 < a → (PrecedesCausally events a b → ⊥) →
    IsDemandedAt level events place cell a b → IsListed level events a b
listed_demand level events place cell a b positive apart d = inr record {
  place = place;
  below = read_place events place b d.reader (demand_read level events place cell a b d);
  listed = inr record { positive = positive; apart = apart; demands = (cell, d) };
}

pub listed_range :
    (level : Level) (events : List Event) → IsOrderly events → (a b : ℕ) → IsListed level events a b → (a < begun events + 1) × (b < begun events + 1)
listed_range level events orderly a b (inl next) =
    let less = next_less events a b next in
    let h = start_bounded events b next.session next.place next.started in (omega arith, omega arith)
listed_range level events orderly a b (inr below) = at below.place below.listed
  where
    at : (place : ℕ) → IsListedAt level events place a b → (a < begun events + 1) × (b < begun events + 1)
    at place (inl read) =
        let first = source_small events orderly place a b read in
        let second = reader_small events place a b read in
        let h = second.1 in (omega arith, omega arith)
    at place (inr news) = by news.demands
      where
        by : DemandsAt level events place a b → (a < begun events + 1) × (b < begun events + 1)
        by (cell, d) =
            let first = writer_bounded events a cell d.writes in
            let second = source_small events orderly place b d.reader (demand_read level events place cell a b d) in (omega arith, omega arith)

-- what is listed is asked
pub asked_from_listed : (level : Level) (events : List Event) (a b : ℕ) → IsListed level events a b → IsAsked level events a b
asked_from_listed level events a b (inl next) = (reasons.SessionOrder, next)
asked_from_listed level events a b (inr below) = at below.place below.listed
  where
    at : (place : ℕ) → IsListedAt level events place a b → IsAsked level events a b
    at place (inl read) = (reasons.Read (place + 1), (place, refl, read))
    at place (inr news) = by news.demands
      where
        by : DemandsAt level events place a b → IsAsked level events a b
        by (cell, d) = (reasons.Axiom (place + 1) cell, (place, refl, d))

-- ---- causal pasts

-- the past of a transaction tells whether a writer is in it
past_tells :
    (level : Level) (events : List Event) (pasts : Pasts) → IsOrderly events → ArePasts events pasts → (place : ℕ) (cell : Cell) (a b : ℕ) → 0 < a →
    IsDemandedAt level events place cell a b → PrecedesCausally events a b ⊎ (PrecedesCausally events a b → ⊥)
past_tells level events pasts orderly are place cell a b positive d =
    let second = source_small events orderly place b d.reader (demand_read level events place cell a b d) in
    let count = are.count in
    elim (slice_get_cases pasts.rows.items b).1 [
      | inl found ↦
          let past : Past = found.0 in
          let written = (writes_later events a cell positive d.writes).1 in
          let both = (are.each b past found.2).exact written.session a written.write.start written.write.starts in
          elim (cases_lt (get_or past.tops.items written.session 0) a) [
            | inl above ↦ inr (λ chain. let h = both.1 chain in absurd (omega arith))
            | inr upto ↦ inl (both.0 (omega arith))
          ]
      | inr none ↦ absurd (let h = none.0 in omega arith)
    ]

-- ---- orders

-- an order that extends the pairs that are listed meets the history at the level
pub meets_from_listed :
    (level : Level) (events : List Event) (pasts : Pasts) (edges : List Edge) (order : List ℕ) → IsOrderly events → ArePasts events pasts →
    IsPairList (IsListed level events) (begun events + 1) edges → IsOrder (begun events + 1) edges order → MeetsAt level events order
meets_from_listed level events pasts edges order orderly are list is =
    let rises : (a b : ℕ) → IsListed level events a b → place_of order a < place_of order b =
    λ a b f.
    let found = list.whole a b f in
    let up : place_of order found.0.before < place_of order found.0.after =
    All-contains (λ e. place_of order e.before < place_of order e.after) edges found.0 is.extends found.1.0 in
    let at_a : place_of order found.0.before ≡ place_of order a = ap (λ (n : ℕ). place_of order n) found.1.1 in
    let at_b : place_of order found.0.after ≡ place_of order b = ap (λ (n : ℕ). place_of order n) found.1.2 in
    omega arith
    in
    let sessions : (a b : ℕ) → IsSessionOrdered events a b → place_of order a < place_of order b =
    λ a b so. sessions_rise events (λ (n : ℕ). place_of order n) (λ x y next. rises x y (inl next)) b a b (omega arith) so
    in
    let direct : (a b : ℕ) → Precedes events a b → place_of order a < place_of order b =
    λ a b p. elim p [
      | inl so ↦ sessions a b so
      | inr wr ↦ rises a b (listed_read level events wr.place a b (read_from_reads events b wr.place wr.cell a wr.reads))
    ]
    in
    let some : 0 < length order = let h = found_once (begun events + 1) order is.holds 0 (omega arith) in omega arith in
    let small : get_or order 0 0 < begun events + 1 =
    All-contains (λ n. n < begun events + 1) order (get_or order 0 0) is.holds.below (Contains-get_or order 0 0 some) in
    let at_front : place_of order (get_or order 0 0) ≤ 0 = place_of-first order 0 (get_or order 0 0) 0 some refl in
    record {
      holds = is.holds;
      first = elim (cases_order (get_or order 0 0) 0) [
        | inl initial ↦ slice_get-get_or order 0 0 some ∙ ap (λ (n : ℕ). Some n) initial
        | inr apart ↦ elim apart [
          | inl less ↦ absurd (omega arith)
          | inr more ↦
              let up : place_of order 0 < place_of order (get_or order 0 0) =
              sessions 0 (get_or order 0 0) (initial_ordered events 0 (get_or order 0 0) refl more (omega arith)) in
              absurd (omega arith)
        ]
      ];
      precedes = direct;
      demands = λ place cell a b d. elim (cases_lt 0 a) [
        | inl positive ↦ elim (past_tells level events pasts orderly are place cell a b positive d) [
          | inl causal ↦ chained_rises (Precedes events) (λ (n : ℕ). place_of order n) direct a b causal
          | inr apart ↦ rises a b (listed_demand level events place cell a b positive apart d)
        ]
        | inr none ↦
            let initial : a ≡ 0 = omega arith in
            let other = d.other in
            let apart : b ≡ 0 → ⊥ = λ same. other (initial ∙ sym same) in
            let bounded = source_small events orderly place b d.reader (demand_read level events place cell a b d) in
            sessions a b (initial_ordered events a b initial (omega arith) bounded)
      ];
    }

read_ordered_of :
    (level : Level) (events : List Event) (order : List ℕ) → MeetsAt level events order → (place a b : ℕ) (e : Event) → IsOf events b place e → IsReading e →
    a ≡ origin_of e → place_of order a < place_of order b
read_ordered_of level events order meets place a b (Read s x w n u v) of reading source =
    meets.precedes a b (inr record { place = place; cell = x; reads = record { event = Read s x w n u v; of_reader = of; gives = (refl, sym source) } })
read_ordered_of level events order meets place a b (Scan s table keys) of reading source =
    meets.precedes a b (inl (initial_ordered events a b source (start_positive events b s of.start of.starts) (start_bounded events b s of.start of.starts)))
read_ordered_of level events order meets place a b (Open s) of reading source = absurd reading
read_ordered_of level events order meets place a b (Close s) of reading source = absurd reading
read_ordered_of level events order meets place a b (Define s name) of reading source = absurd reading
read_ordered_of level events order meets place a b (Look s count) of reading source = absurd reading
read_ordered_of level events order meets place a b (Begin s level2) of reading source = absurd reading
read_ordered_of level events order meets place a b (Own s x v) of reading source = absurd reading
read_ordered_of level events order meets place a b (Write s x v) of reading source = absurd reading
read_ordered_of level events order meets place a b (Commit s) of reading source = absurd reading
read_ordered_of level events order meets place a b (Rollback s) of reading source = absurd reading
read_ordered_of level events order meets place a b (Show s number) of reading source = absurd reading

-- an order that meets the history keeps each pair that has a reason
pub reason_rises :
    (level : Level) (events : List Event) (order : List ℕ) → MeetsAt level events order → (a b : ℕ) (reason : Reason) → HasReason level events a b reason →
    place_of order a < place_of order b
reason_rises level events order meets a b reasons.SessionOrder next = meets.precedes a b (inl (next_ordered events a b next))
reason_rises level events order meets a b (reasons.Read event) (place, number, read) =
    read_ordered_of level events order meets place a b read.event read.of_reader read.reading read.source_is
reason_rises level events order meets a b (reasons.Axiom event cell) (place, number, d) = meets.demands place cell a b d

-- a list that places least by a relation places least by a wider one, along which its places rise
places_wider :
    (size : ℕ) (R S : ℕ → ℕ → Type 0) (order : List ℕ) → ((a b : ℕ) → R a b → S a b) → HoldsEachOnce size order → RisesAlong S order →
    PlacesLeast size R order → PlacesLeast size S order
places_wider size R S order wider holds rises places = record {
  all = places.all;
  each = λ k small. record {
    may =
        let all : length order ≡ size = places.all in
        follows_in_order size S order holds rises k (omega arith);
    least = λ m follow. (places.each k small).least m (follow_same size S R wider (take k order) m follow);
  };
}

pub order_at :
    (level : Level) (events : List Event) (pasts : Pasts) (edges : List Edge) (order : List ℕ) → IsOrderly events → ArePasts events pasts →
    IsPairList (IsListed level events) (begun events + 1) edges → HasLeastOrder (begun events + 1) edges order → IsOrderAt level events order
order_at level events pasts edges order orderly are list least =
    let meets : MeetsAt level events order = meets_from_listed level events pasts edges order orderly are list least.is.extends in
    record {
      meets = meets;
      least = places_wider (begun events + 1) (HasEdge edges) (IsAsked level events) order
          (λ a b member. asked_from_listed level events a b (list.sound record { before = a; after = b } member)) meets.holds
          (λ a b asked. reason_rises level events order meets a b asked.0 asked.1)
          (places_pairs (begun events + 1) edges order least.is);
    }

-- ---- cycles

all_mapped :
    {X Y : Type 0} (f : X → Y) (P : Y → Type 0) (xs : List X) → ((k : ℕ) (x : X) → slice_get xs k ≡ Some x → P (f x)) → (k : ℕ) (d : Y) → k < length (map f xs) →
    P (get_or (map f xs) k d)
all_mapped f P [] each k d within = absurd (omega arith)
all_mapped f P (x ∷ xs) each zero d within = each 0 x refl
all_mapped f P (x ∷ xs) each (suc k) d within = all_mapped f P xs (λ j y is. each (suc j) y is) k d (omega arith)

pub cycle_excludes :
    (level : Level) (events : List Event) (order : List ℕ) (steps : List Step) → IsCycleAt level events steps → MeetsAt level events order → ⊥
cycle_excludes level events order steps cycle meets =
    no_cycle_extended (edges_of steps) order
    (all_mapped (λ (step : Step). step.edge) (λ (e : Edge). place_of order e.before < place_of order e.after) steps
    (λ k step is. reason_rises level events order meets step.edge.before step.edge.after step.reason (cycle.reasons k step is).has))
    (edges_of steps) cycle.closes

-- ---- where all transactions run at the level

pub meets_at_own :
    (level : Level) (events : List Event) (order : List ℕ) → ((number : ℕ) (other : Level) → RunsAt events number other → other ≡ level) →
    MeetsAt level events order → Meets events order
meets_at_own level events order own meets = record {
  holds = meets.holds;
  first = meets.first;
  precedes = meets.precedes;
  demands = λ a b d. meets.demands d.place d.cell a b record {
    reader = d.reader;
    reads = d.reads;
    other = d.other;
    writes = d.writes;
    visible =
        subst (λ (l : Level). IsVisibleAt l events d.reader d.place a) (own d.reader d.visible.level d.visible.runs) d.visible.sees;
  };
}

pub own_meets_at :
    (level : Level) (events : List Event) (order : List ℕ) → ((number : ℕ) (other : Level) → RunsAt events number other → other ≡ level) →
    Meets events order → MeetsAt level events order
own_meets_at level events order own meets = record {
  holds = meets.holds;
  first = meets.first;
  precedes = meets.precedes;
  demands = λ place cell a b d.
      let of = d.reads.of_reader in
      let runs = runs_of events d.reader (session_in d.reads.event) of.start of.starts in
      meets.demands a b record {
        reader = d.reader;
        place = place;
        cell = cell;
        reads = d.reads;
        other = d.other;
        writes = d.writes;
        visible = record {
          level = level;
          runs = subst (λ (l : Level). RunsAt events d.reader l) (own d.reader of.starts.level runs) runs;
          sees = d.visible;
        };
      };
}
