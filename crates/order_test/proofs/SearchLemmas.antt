-- What the order doesn't keep of the events, one after another.
use Rattle.std.proofs.Common.{◌≡◌, ℕ, ◌+◌, ◌<◌, ◌≤◌, List, Some, length, get_or, take, arith, refl, ap, sym, ◌∙◌, subst, inl, inr, ◌⊎◌}
use Rattle.std.specs.Prelude.{Option, None, IsTrue, IfSome, IfNone, is_some, true, false}
use Rattle.std.specs.List.{slice_get}
use Rattle.std.proofs.lemmas.List.{length-take-le, take-take}
use Rattle.std.proofs.lemmas.List.Sums.{count_by-le-length}
use Rattle.std.proofs.lemmas.Option.{slice_get_within}
use Rattle.std.proofs.lemmas.Bool.{cases_eq, cases_lt}
use Rattle.std.specs.declared.cmp.Ordering.TheVariants.{Greater}
use Rattle.graph_base.specs.Order.{place_of}
use Rattle.cell_base.specs.declared.cell.Cell.{Cell}
use Rattle.cell_base.specs.declared.cell.Cell.TheVariants.{Presence, Field}
use Rattle.cell_base.specs.contracts.cell.CellOrd.TheImpl as cell_order
use Rattle.history_core.specs.declared.event.Event.{Event}
use Rattle.history_core.specs.declared.event.Event.TheVariants.{Open, Close, Define, Look, Begin, Scan, Read, Own, Write, Commit, Rollback, Show}
use Rattle.history_core.specs.declared.txn.Txn.{Txn}
use Rattle.history_core.specs.declared.txn.TxnState.TheVariants.{Committed}
use Rattle.history_core.specs.Events.{begun, is_begin, session_in}
use Rattle.history_core.specs.Transactions.{IsOf, IsPending, IsCommitted, HasPending}
use Rattle.history_core.specs.Relations.{Gives, Reads, IsVisible, Meets}
use Rattle.history_core.specs.Records.{IsRecordOf}
use Rattle.history_core.proofs.Places.{slice_get-take, begun-take_all}
use Rattle.history_core.proofs.Prefixes.{start_positive, start_bounded}
use Rattle.history_core.proofs.Offers.{pending_unique, writer_bounded}
use Rattle.saturation.proofs.Sights.{written_from_record, none_from_record, writes_later}
use Rattle.saturation.proofs.Decides.{committed_bounded}
use Rattle.cell_writers.specs.Numbered.{AreWriters}
use Rattle.order_test.specs.declared.read_at.ReadAt.{ReadAt}
use Rattle.order_test.specs.declared.survey.Survey.{Survey}
use Rattle.order_test.specs.declared.unkept.Unkept.{Unkept}
use Rattle.order_test.specs.declared.unkept.Unkept.TheVariants as unkept
use Rattle.order_test.specs.Settled.{IsOrderly, HasReader, HasSettledSource}
use Rattle.order_test.specs.Unkept.{HoldsTransactions, StandsBefore, IsReadEarly, IsUnmet, IsKeptAt, IsKeptBelow, KeepsSessions, IsFoundOfOrder}
use Rattle.order_test.specs.Firsts.{HoldCommitted}
use Rattle.order_test.specs.Glance.{AreOwners, IsGlance}
use Rattle.order_test.specs.Places.{ArePlaces}
use Rattle.order_test.specs.Reaches.{AreReaches}
use Rattle.order_test.specs.Scenes.{IsSurvey, IsReadIn, IsRivalOf, IsUnrivalled}
use Rattle.order_test.specs.Sights.{origin_of, IsNumber, IsReading, IsRivalCell, IsFirstRivalCell, IsReadAt, IsRival, IsAxiomOf, IsFoundAt, IsFoundAmong}
use Rattle.order_test.proofs.PastSteps.{sound_from}
use Rattle.order_test.proofs.Owners.{owner_pending, of_front}
use Rattle.order_test.proofs.SightLemmas.{first_before}

-- ---- a read is of one transaction

-- the transaction of an event is pending before it
of_pending : (events : List Event) (k p : ℕ) (e : Event) → IsOf events k p e → IsPending (take p events) k (session_in e)
of_pending events k p e of =
    let within : p < length events = slice_get_within events p e of.is in
    let long : length (take p events) ≡ p = length-take-le p events (omega arith) in
    let after = of.after in
    let same : begun (take of.start (take p events)) ≡ begun (take of.start events) = ap begun (take-take of.start p events (omega arith)) in
    record {
      start = of.start;
      starts = record {
        level = of.starts.level;
        is = slice_get-take events p of.start after ∙ of.starts.is;
        counts = let c = of.starts.counts in omega arith;
      };
      running = λ q f above below is. of.running q f above (omega arith) (sym (slice_get-take events p q (omega arith)) ∙ is);
    }

pub one_reader : (events : List Event) → IsOrderly events → (k j p : ℕ) (e f : Event) → IsOf events k p e → IsOf events j p f → (e ≡ f) × (k ≡ j)
one_reader events orderly k j p e f first second =
    let both : Some e ≡ Some f = sym first.is ∙ second.is in
    let same : e ≡ f = cc in
    let settled = (orderly p e first.is).settled in (
      same,
      pending_unique (take p events) (sound_from (take p events) settled) (session_in e) k j (of_pending events k p e first)
          (subst (λ (g : Event). IsPending (take p events) j (session_in g)) (sym same) (of_pending events j p f second)),
    )

pub gives_origin : (e : Event) (cell : Cell) (from : ℕ) → Gives e cell from → from ≡ origin_of e
gives_origin (Read s x w n u v) cell from gives = sym gives.1
gives_origin (Scan s table keys) (Presence t key) from gives = gives.2
gives_origin (Scan s table keys) (Field t key c) from gives = absurd gives
gives_origin (Open s) cell from gives = absurd gives
gives_origin (Close s) cell from gives = absurd gives
gives_origin (Define s name) cell from gives = absurd gives
gives_origin (Look s count) cell from gives = absurd gives
gives_origin (Begin s level) cell from gives = absurd gives
gives_origin (Own s x v) cell from gives = absurd gives
gives_origin (Write s x v) cell from gives = absurd gives
gives_origin (Commit s) cell from gives = absurd gives
gives_origin (Rollback s) cell from gives = absurd gives
gives_origin (Show s number) cell from gives = absurd gives

gives_reading : (e : Event) (cell : Cell) (from : ℕ) → Gives e cell from → IsReading e
gives_reading (Read s x w n u v) cell from gives = tt
gives_reading (Scan s table keys) cell from gives = tt
gives_reading (Open s) cell from gives = gives
gives_reading (Close s) cell from gives = gives
gives_reading (Define s name) cell from gives = gives
gives_reading (Look s count) cell from gives = gives
gives_reading (Begin s level) cell from gives = gives
gives_reading (Own s x v) cell from gives = gives
gives_reading (Write s x v) cell from gives = gives
gives_reading (Commit s) cell from gives = gives
gives_reading (Rollback s) cell from gives = gives
gives_reading (Show s number) cell from gives = gives

-- what is read at the place is read by its reader from its origin
pub record ReadsHere (event : Event) (reader by from : ℕ) (cell : Cell) : Type 0 where
  pub reader_is : by ≡ reader
  pub origin_is : from ≡ origin_of event
  pub gives : Gives event cell from

pub reads_here :
    (events : List Event) → IsOrderly events → (place : ℕ) (event : Event) (reader : ℕ) → IsOf events reader place event → (by from : ℕ) (cell : Cell) →
    Reads events by place cell from → ReadsHere event reader by from cell
reads_here events orderly place event reader of by from cell reads =
    let one = one_reader events orderly by reader place reads.event event reads.of_reader of in
    let gives : Gives event cell from = subst (λ (e : Event). Gives e cell from) one.0 reads.gives in
    record { reader_is = one.1; origin_is = gives_origin event cell from gives; gives = gives }

pub reads_of : (events : List Event) (place : ℕ) (event : Event) (reader : ℕ) → IsOf events reader place event → (cell : Cell) → Gives event cell (origin_of event) →
    Reads events reader place cell (origin_of event)
reads_of events place event reader of cell gives = record { event = event; of_reader = of; gives = gives }

-- where nothing is read the order keeps all
pub kept_without_read : (events : List Event) (order : List ℕ) (place : ℕ) (event : Event) → slice_get events place ≡ Some event → (IsReading event → ⊥) → IsKeptAt events order place
kept_without_read events order place event is none = record {
  reads = λ origin reader early. no_read reader early.cell origin early.reads;
  sights = λ origin rival reader cell unmet. no_read reader cell origin unmet.reads;
}
  where
    no_read : (by : ℕ) (cell : Cell) (from : ℕ) → Reads events by place cell from → ⊥
    no_read by cell from reads =
        let both : Some reads.event ≡ Some event = sym reads.of_reader.is ∙ is in
        let same : reads.event ≡ event = cc in
        none (subst (λ (e : Event). IsReading e) same (gives_reading reads.event cell from reads.gives))

-- ---- rivals

pub reader_number : (events : List Event) (place : ℕ) (event : Event) (reader : ℕ) → IsReadAt events place event reader → (0 < reader) × (reader ≤ begun events)
reader_number events place event reader read =
    let of = read.of in
    (start_positive events reader (session_in event) of.start of.starts, start_bounded events reader (session_in event) of.start of.starts)

-- the reader of a read of the survey
pub reader_of : (survey : Survey) (read : ReadAt) → IsReadIn survey read → IsNumber survey.events.now read.reader
reader_of survey read is = reader_number survey.events.now read.place read.event.now read.reader is

pub rival_from :
    (events : List Event) (order : List ℕ) (place : ℕ) (event : Event) (reader rival : ℕ) (txn : Txn) (cell : Cell) → IsReadAt events place event reader →
    IsRecordOf events rival txn → txn.state ≡ Committed → (rival ≡ origin_of event → ⊥) → (StandsBefore order rival (origin_of event) → ⊥) →
    IsRivalCell event txn.buffer.writes cell → IsVisible events reader place rival → IsUnmet events order place (origin_of event) rival reader cell
rival_from events order place event reader rival txn cell read is state other late of visible = record {
  reads = reads_of events place event reader read.of cell of.gives;
  other = other;
  writes = inr (is.committed.0 state, written_from_record events rival txn cell of.value is of.written);
  visible = visible;
  late = late;
}

-- the cell of an unmet rival is one that it wrote
pub no_rival_from :
    (events : List Event) (order : List ℕ) (place : ℕ) (event : Event) (reader rival : ℕ) (txn : Txn) → IsReadAt events place event reader → 0 < rival →
    IsRecordOf events rival txn → ((cell : Cell) → IsRivalCell event txn.buffer.writes cell → ⊥) → (cell : Cell) →
    IsUnmet events order place (origin_of event) rival reader cell → ⊥
no_rival_from events order place event reader rival txn read positive is none cell unmet =
    let both : Some unmet.reads.event ≡ Some event = sym unmet.reads.of_reader.is ∙ read.of.is in
    let same : unmet.reads.event ≡ event = cc in
    let gives : Gives event cell (origin_of event) = subst (λ (e : Event). Gives e cell (origin_of event)) same unmet.reads.gives in
    none_from_record events rival txn cell is (λ v member. none cell record { gives = gives; value = v; written = member })
    (writes_later events rival cell positive unmet.writes).1

pub rival_bounds :
    (events : List Event) (order : List ℕ) (place : ℕ) (event : Event) (reader rival : ℕ) → HoldsTransactions events order → IsReadAt events place event reader →
    IsRival events order place (origin_of event) reader rival → (0 < rival) × (rival ≤ begun events)
rival_bounds events order place event reader rival holds read (cell, unmet) =
    let h = writer_bounded events rival cell unmet.writes in
    elim (cases_eq rival 0) [
      | inr other ↦ (omega arith, omega arith)
      | inl initial ↦
          let from = read.from in
          let apart : origin_of event ≡ 0 → ⊥ = λ zero. unmet.other (initial ∙ sym zero) in
          let positive : 0 < origin_of event = omega arith in
          absurd (unmet.late (subst (λ (n : ℕ). StandsBefore order n (origin_of event)) (sym initial)
          (first_before (begun events + 1) order holds (origin_of event) positive (omega arith))))
    ]

pub bounds_of : (survey : Survey) (read : ReadAt) → IsSurvey survey → IsReadIn survey read → (other : ℕ) → IsRivalOf survey read other → IsNumber survey.events.now other
bounds_of survey read light is_read other rival = rival_bounds survey.events.now survey.order.now read.place read.event.now read.reader other light.holds is_read rival

abbrev pub NoRivalUpTo : Survey → ReadAt → ℕ → Type 0
NoRivalUpTo survey read n = (other : ℕ) → 0 < other → other ≤ n → IsRivalOf survey read other → ⊥

pub no_rival_step :
    (survey : Survey) (read : ReadAt) (n : ℕ) → (IsRivalOf survey read (n + 1) → ⊥) → NoRivalUpTo survey read n → NoRivalUpTo survey read (n + 1)
no_rival_step survey read n none before other positive within rival =
    elim (cases_eq other (n + 1)) [
      | inl same ↦ none (subst (λ (m : ℕ). IsRivalOf survey read m) same rival)
      | inr apart ↦ before other positive (omega arith) rival
    ]

pub rival_least :
    (survey : Survey) (read : ReadAt) (n : ℕ) → IsSurvey survey → IsReadIn survey read → NoRivalUpTo survey read n → (other : ℕ) → IsRivalOf survey read other → n + 1 ≤ other
rival_least survey read n light is_read none other rival =
    let h = bounds_of survey read light is_read other rival in
    elim (cases_lt n other) [
      | inl above ↦ omega arith
      | inr within ↦ absurd (none other h.0 within rival)
    ]

-- ---- what is told of one event

pub axiom_is :
    (events : List Event) (order : List ℕ) (place : ℕ) (event : Event) (reader rival : ℕ) (txn : Txn) (cell : Cell) → IsReadAt events place event reader → 0 < rival →
    IsRecordOf events rival txn → IsRival events order place (origin_of event) reader rival → IsFirstRivalCell event txn.buffer.writes cell →
    IsAxiomOf events order place (origin_of event) rival reader (unkept.Axiom (place + 1) (origin_of event) rival reader cell)
axiom_is events order place event reader rival txn cell read positive is (some, unmet) first = record {
  cell = cell;
  told = refl;
  is = record {
    reads = reads_of events place event reader read.of cell first.is.gives;
    other = unmet.other;
    writes = inr ((writes_later events rival some positive unmet.writes).0, written_from_record events rival txn cell first.is.value is first.is.written);
    visible = unmet.visible;
    late = unmet.late;
  };
  least = λ other also greater.
      no_rival_of other also greater;
}
  where
    no_rival_of : (other : Cell) → IsUnmet events order place (origin_of event) rival reader other → (cell_order.ghosts).cmp cell other ≡ Greater → ⊥
    no_rival_of other also greater =
        let both : Some also.reads.event ≡ Some event = sym also.reads.of_reader.is ∙ read.of.is in
        let same : also.reads.event ≡ event = cc in
        let gives : Gives event other (origin_of event) = subst (λ (e : Event). Gives e other (origin_of event)) same also.reads.gives in
        none_from_record events rival txn other is
        (λ v member. first.least other record { gives = gives; value = v; written = member } greater)
        (writes_later events rival other positive also.writes).1

-- a read that is late has a cell
pub early_is :
    (events : List Event) (order : List ℕ) (place : ℕ) (event : Event) (reader : ℕ) → HoldsTransactions events order → IsReadAt events place event reader → IsReading event →
    (StandsBefore order (origin_of event) reader → ⊥) → IsReadEarly events order place (origin_of event) reader
early_is events order place (Read s x w n u v) reader holds read reading late = record { cell = x; reads = record { event = Read s x w n u v; of_reader = read.of; gives = (refl, refl) }; late = late }
early_is events order place (Scan s table keys) reader holds read reading late =
    let h = reader_number events place (Scan s table keys) reader read in
    absurd (late (first_before (begun events + 1) order holds reader h.0 (let b = h.1 in omega arith)))
early_is events order place (Open s) reader holds read reading late = absurd reading
early_is events order place (Close s) reader holds read reading late = absurd reading
early_is events order place (Define s name) reader holds read reading late = absurd reading
early_is events order place (Look s count) reader holds read reading late = absurd reading
early_is events order place (Begin s level) reader holds read reading late = absurd reading
early_is events order place (Own s x v) reader holds read reading late = absurd reading
early_is events order place (Write s x v) reader holds read reading late = absurd reading
early_is events order place (Commit s) reader holds read reading late = absurd reading
early_is events order place (Rollback s) reader holds read reading late = absurd reading
early_is events order place (Show s number) reader holds read reading late = absurd reading

pub none_early :
    (events : List Event) (order : List ℕ) (place : ℕ) (event : Event) (reader : ℕ) → IsOrderly events → IsReadAt events place event reader →
    ((StandsBefore order (origin_of event) reader → ⊥) → ⊥) → (from by : ℕ) → IsReadEarly events order place from by → ⊥
none_early events order place event reader orderly read none from by early =
    let here = reads_here events orderly place event reader read.of by from early.cell early.reads in
    none (subst (λ (n : ℕ). StandsBefore order n reader → ⊥) here.origin_is (subst (λ (n : ℕ). StandsBefore order from n → ⊥) here.reader_is early.late))

-- an unmet read of the event is one of its reader, from its origin
pub unmet_here :
    (events : List Event) (order : List ℕ) (place : ℕ) (event : Event) (reader : ℕ) → IsOrderly events → IsReadAt events place event reader → (from rival by : ℕ) (cell : Cell) →
    IsUnmet events order place from rival by cell → IsUnmet events order place (origin_of event) rival reader cell
unmet_here events order place event reader orderly read from rival by cell unmet =
    let here = reads_here events orderly place event reader read.of by from cell unmet.reads in
    subst (λ (n : ℕ). IsUnmet events order place n rival reader cell) here.origin_is
    (subst (λ (n : ℕ). IsUnmet events order place from rival n cell) here.reader_is unmet)

pub kept_is :
    (survey : Survey) (read : ReadAt) → IsSurvey survey → IsReadIn survey read → ((StandsBefore survey.order.now (origin_of read.event.now) read.reader → ⊥) → ⊥) →
    IsUnrivalled survey read → IsKeptAt survey.events.now survey.order.now read.place
kept_is survey read light is_read none no_rival = record {
  reads = none_early survey.events.now survey.order.now read.place read.event.now read.reader light.orderly is_read none;
  sights = λ from rival by cell unmet.
      no_rival rival (cell, unmet_here survey.events.now survey.order.now read.place read.event.now read.reader light.orderly is_read from rival by cell unmet);
}

pub first_axiom_is :
    (survey : Survey) (read : ReadAt) (rival : ℕ) (found : Unkept) → IsSurvey survey → IsReadIn survey read →
    ((StandsBefore survey.order.now (origin_of read.event.now) read.reader → ⊥) → ⊥) → ((other : ℕ) → IsRivalOf survey read other → rival ≤ other) →
    IsAxiomOf survey.events.now survey.order.now read.place (origin_of read.event.now) rival read.reader found →
    IsFoundAt survey.events.now survey.order.now read.place (Some found)
first_axiom_is survey read rival found light is_read none least of_rival =
    subst (λ (u : Unkept). IsFoundAt survey.events.now survey.order.now read.place (Some u)) (sym of_rival.told) (
      refl,
      none_early survey.events.now survey.order.now read.place read.event.now read.reader light.orderly is_read none,
      record {
        is = of_rival.is;
        least = λ from other by of unmet. least other (of, here from other by of unmet);
        first = λ from by of unmet. of_rival.least of (here from rival by of unmet);
      },
    )
  where
    here : (from other by : ℕ) (cell : Cell) → IsUnmet survey.events.now survey.order.now read.place from other by cell →
        IsUnmet survey.events.now survey.order.now read.place (origin_of read.event.now) other read.reader cell
    here from other by cell unmet = unmet_here survey.events.now survey.order.now read.place read.event.now read.reader light.orderly is_read from other by cell unmet

-- ---- one event after another

pub kept_step : (events : List Event) (order : List ℕ) (n : ℕ) → IsKeptAt events order n → IsKeptBelow events order n → IsKeptBelow events order (n + 1)
kept_step events order n here before k under =
    elim (cases_eq k n) [
      | inl same ↦ subst (λ (m : ℕ). IsKeptAt events order m) (sym same) here
      | inr other ↦ before k (omega arith)
    ]

-- beyond the last event nothing is asked
pub kept_all : (events : List Event) (order : List ℕ) (n : ℕ) → length events ≤ n → IsKeptBelow events order n → (place : ℕ) → IsKeptAt events order place
kept_all events order n all below place =
    elim (cases_lt place n) [
      | inl inside ↦ below place inside
      | inr beyond ↦ record {
        reads = λ origin reader early.
            let h = slice_get_within events place early.reads.event early.reads.of_reader.is in absurd (omega arith);
        sights = λ origin rival reader cell unmet.
            let h = slice_get_within events place unmet.reads.event unmet.reads.of_reader.is in absurd (omega arith);
      }
    ]

pub found_first :
    (events : List Event) (order : List ℕ) (place : ℕ) (found : Unkept) → IsKeptBelow events order place → IsFoundAt events order place (Some found) → IsFoundAmong events order (Some found)
found_first events order place (unkept.Order) before at = at
found_first events order place (unkept.Session a b) before at = at
found_first events order place (unkept.Read event origin reader) before at = (place, at.0, record { before = before; is = at.1 })
found_first events order place (unkept.Axiom event origin rival reader cell) before at = (place, at.0, record { before = before; reads = at.1; is = at.2 })

-- ---- the whole order

pub less_unless : (a b : ℕ) → ((a < b → ⊥) → ⊥) → a < b
less_unless a b none = elim (cases_lt a b) [ inl less ↦ less | inr more ↦ absurd (none (λ less. absurd (omega arith))) ]

pub meets_from_kept :
    (events : List Event) (order : List ℕ) → HoldsTransactions events order → KeepsSessions events order → ((place : ℕ) → IsKeptAt events order place) → Meets events order
meets_from_kept events order holds sessions kept = record {
  holds = holds.once;
  first = holds.first;
  precedes = λ a b p. less_unless (place_of order a) (place_of order b) (elim p [
    | inl so ↦ λ late. sessions a b record { ordered = so; late = late }
    | inr wr ↦ λ late. (kept wr.place).reads a b record { cell = wr.cell; reads = wr.reads; late = late }
  ]);
  demands = λ a b d.
      less_unless (place_of order a) (place_of order b)
      (λ late.
      (kept d.place).sights b a d.reader d.cell record { reads = d.reads; other = d.other; writes = d.writes; visible = d.visible; late = late });
}

pub found_is :
    (events : List Event) (order : List ℕ) (found : Option Unkept) → HoldsTransactions events order → KeepsSessions events order → IsFoundAmong events order found → IsFoundOfOrder events order found
found_is events order None holds sessions kept = meets_from_kept events order holds sessions kept
found_is events order (Some unkept.Order) holds sessions none = absurd none
found_is events order (Some (unkept.Session a b)) holds sessions none = absurd none
found_is events order (Some (unkept.Read event origin reader)) holds sessions read = (holds, sessions, read)
found_is events order (Some (unkept.Axiom event origin rival reader cell)) holds sessions first = (holds, sessions, first)

-- ---- the reader that stands beside an event

pub read_at :
    (events : List Event) (owners : List ℕ) (place : ℕ) (event : Event) → AreOwners events owners → IsOrderly events → slice_get events place ≡ Some event → IsReading event →
    IsReadAt events place event (get_or owners place 0)
read_at events owners place event are orderly is reading = record {
  of =
      let comes = orderly place event is in
      of_front events (get_or owners place 0) place event is
      (owner_pending (take place events) (sound_from (take place events) comes.settled) (session_in event) (get_or owners place 0) (pending event reading comes.reader)
      (are.each place event is));
  from = bounded event (orderly place event is).source;
}
  where
    within : (n : ℕ) → (n ≡ 0) ⊎ IsCommitted (take place events) n → n ≤ begun events
    within n committed =
        let h = committed_bounded (take place events) n committed in
        let all = begun-take_all events place in omega arith

    pending : (e : Event) → IsReading e → HasReader (take place events) e → HasPending (take place events) (session_in e)
    pending (Read s x w n u v) reads has = has
    pending (Scan s table keys) reads has = has
    pending (Open s) reads has = absurd reads
    pending (Close s) reads has = absurd reads
    pending (Define s name) reads has = absurd reads
    pending (Look s count) reads has = absurd reads
    pending (Begin s level) reads has = absurd reads
    pending (Own s x v) reads has = absurd reads
    pending (Write s x v) reads has = absurd reads
    pending (Commit s) reads has = absurd reads
    pending (Rollback s) reads has = absurd reads
    pending (Show s number) reads has = absurd reads

    bounded : (e : Event) → HasSettledSource (take place events) e → origin_of e ≤ begun events
    bounded (Read s x w n u v) source = within w source
    bounded (Scan s table keys) source = omega arith
    bounded (Open s) source = omega arith
    bounded (Close s) source = omega arith
    bounded (Define s name) source = omega arith
    bounded (Look s count) source = omega arith
    bounded (Begin s level) source = omega arith
    bounded (Own s x v) source = omega arith
    bounded (Write s x v) source = omega arith
    bounded (Commit s) source = omega arith
    bounded (Rollback s) source = omega arith
    bounded (Show s number) source = omega arith

pub place_small : (events : List Event) (place : ℕ) (event : Event) (reader : ℕ) → IsReadAt events place event reader → place < length events
place_small events place event reader read = slice_get_within events place event read.of.is

-- ---- what is light

pub survey_is :
    (survey : Survey) → length survey.events.now < 4294967296 → IsOrderly survey.events.now → HoldsTransactions survey.events.now survey.order.now →
    ArePlaces (begun survey.events.now + 1) survey.order.now survey.places.now.at.items → AreWriters survey.events.now survey.cells.now →
    IsGlance survey.events.now survey.order.now survey.glance.now → AreReaches survey.places.now.at.items survey.cells.now survey.reaches.now →
    (IsTrue survey.glance.now.scans → HoldCommitted survey.cells.now survey.reaches.now.firsts) → IsSurvey survey
survey_is survey few orderly holds places writers glance reaches firsts = record {
  few_events = few;
  few = let less : begun survey.events.now ≤ length survey.events.now = count_by-le-length is_begin survey.events.now in omega arith;
  orderly = orderly;
  holds = holds;
  places_are = places;
  writers_are = writers;
  glance_is = glance;
  reaches_are = reaches;
  firsts_are = firsts;
}

-- ---- answers

pub some_of : {X : Type 0} (P : X → Type 0) (o : Option X) → is_some o ≡ true → IfSome o P → (x : X) × P x
some_of P None is holds = cc
some_of P (Some x) is holds = (x, holds)

pub none_of : {X : Type 0} (P : Type 0) (o : Option X) → is_some o ≡ false → IfNone o P → P
none_of P None is holds = holds
none_of P (Some x) is holds = cc
