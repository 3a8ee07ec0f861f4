-- What a read demands, by the record of the writer.
use Rattle.std.proofs.Common.{◌≡◌, ◌<◌, ℕ, List, Some, ap, sym, ◌∙◌, subst, inr}
use Rattle.std.specs.List.{slice_get}
use Rattle.cell_base.specs.declared.level.Level.{Level}
use Rattle.cell_base.specs.declared.cell.Cell.{Cell}
use Rattle.history_core.specs.declared.event.Event.{Event}
use Rattle.history_core.specs.declared.txn.Txn.{Txn}
use Rattle.history_core.specs.declared.txn.TxnState.TheVariants.{Committed}
use Rattle.history_core.specs.Relations.{IsVisibleAt}
use Rattle.history_core.specs.Records.{IsRecordOf}
use Rattle.saturation.proofs.Sights.{written_from_record, none_from_record, writes_later}
use Rattle.order_test.specs.Settled.{IsOrderly}
use Rattle.order_test.specs.Sights.{IsReadAt, IsReading, IsRivalCell, IsFirstRivalCell, origin_of}
use Rattle.order_test.proofs.SearchLemmas.{reads_here, reads_of}
use Rattle.cycle_report.specs.Reasons.{IsReadFromAt, IsDemandedAt}
use Rattle.cycle_report.specs.Views.{DemandsAt}
use Rattle.cycle_report.specs.Firsts.{IsFirstDemand}
use Rattle.cycle_report.proofs.Orders.{demand_read}

-- the reader of a demand is that of the event
pub demand_visible :
    (level : Level) (events : List Event) (place : ℕ) (event : Event) (reader : ℕ) (cell : Cell) (a b : ℕ) → IsOrderly events →
    IsReadAt events place event reader → IsDemandedAt level events place cell a b → IsVisibleAt level events reader place a
demand_visible level events place event reader cell a b orderly read d =
    let here = reads_here events orderly place event reader read.of d.reader b cell d.reads in
    subst (λ (r : ℕ). IsVisibleAt level events r place a) here.reader_is d.visible

pub demand_rival :
    (level : Level) (events : List Event) (place : ℕ) (event : Event) (reader : ℕ) (txn : Txn) (cell : Cell) (a : ℕ) → IsOrderly events →
    IsReadAt events place event reader → 0 < a → IsRecordOf events a txn → IsDemandedAt level events place cell a (origin_of event) →
    (IsRivalCell event txn.buffer.writes cell → ⊥) → ⊥
demand_rival level events place event reader txn cell a orderly read positive is d none =
    let here = reads_here events orderly place event reader read.of d.reader (origin_of event) cell d.reads in
    none_from_record events a txn cell is (λ v member. none record { gives = here.gives; value = v; written = member })
    (writes_later events a cell positive d.writes).1

pub first_demand_of :
    (level : Level) (events : List Event) (place : ℕ) (event : Event) (reader : ℕ) (txn : Txn) (cell : Cell) (a : ℕ) → IsOrderly events →
    IsReadAt events place event reader → 0 < a → IsRecordOf events a txn → txn.state ≡ Committed → (a ≡ origin_of event → ⊥) →
    IsVisibleAt level events reader place a → IsFirstRivalCell event txn.buffer.writes cell → IsFirstDemand level events place cell a (origin_of event)
first_demand_of level events place event reader txn cell a orderly read positive is state other visible first = record {
  is = record {
    reader = reader;
    reads = reads_of events place event reader read.of cell first.is.gives;
    other = other;
    writes = inr (is.committed.0 state, written_from_record events a txn cell first.is.value is first.is.written);
    visible = visible;
  };
  least = λ of d up.
      demand_rival level events place event reader txn of a orderly read positive is d (λ rival. first.least of rival up);
}

-- there is no demand of the writer itself,
pub no_demand_of_source : (level : Level) (events : List Event) (place a b : ℕ) → a ≡ b → DemandsAt level events place a b → ⊥
no_demand_of_source level events place a b same (cell, d) = d.other same

-- of one that hasn't committed,
pub no_demand_uncommitted :
    (level : Level) (events : List Event) (place : ℕ) (txn : Txn) (a b : ℕ) → 0 < a → IsRecordOf events a txn → (txn.state ≡ Committed → ⊥) →
    DemandsAt level events place a b → ⊥
no_demand_uncommitted level events place txn a b positive is none (cell, d) = none (is.committed.1 (writes_later events a cell positive d.writes).0)

-- of one that isn't seen,
pub no_demand_unseen :
    (level : Level) (events : List Event) (place : ℕ) (event : Event) (reader a b : ℕ) → IsOrderly events → IsReadAt events place event reader →
    (IsVisibleAt level events reader place a → ⊥) → DemandsAt level events place a b → ⊥
no_demand_unseen level events place event reader a b orderly read none (cell, d) =
    none (demand_visible level events place event reader cell a b orderly read d)

-- and of one that writes no cell of the read
pub no_demand_unwritten :
    (level : Level) (events : List Event) (place : ℕ) (event : Event) (reader : ℕ) (txn : Txn) (a : ℕ) → IsOrderly events → IsReadAt events place event reader →
    0 < a → IsRecordOf events a txn → ((cell : Cell) → IsRivalCell event txn.buffer.writes cell → ⊥) → DemandsAt level events place a (origin_of event) → ⊥
no_demand_unwritten level events place event reader txn a orderly read positive is none (cell, d) =
    demand_rival level events place event reader txn cell a orderly read positive is d (none cell)

-- ---- what stands at a place

-- the event at the place is the one that is read by
pub same_event : (events : List Event) (place : ℕ) (event : Event) (source reader : ℕ) → slice_get events place ≡ Some event → (read : IsReadFromAt events place source reader) →
    read.event ≡ event
same_event events place event source reader is read =
    let both : Some read.event ≡ Some event = sym read.of_reader.is ∙ is in cc

pub no_read_at : (events : List Event) (place : ℕ) (event : Event) (source reader : ℕ) → slice_get events place ≡ Some event → (IsReading event → ⊥) →
    IsReadFromAt events place source reader → ⊥
no_read_at events place event source reader is none read =
    none (subst (λ (e : Event). IsReading e) (same_event events place event source reader is read) read.reading)

pub source_at : (events : List Event) (place : ℕ) (event : Event) (source reader : ℕ) → slice_get events place ≡ Some event → IsReadFromAt events place source reader →
    source ≡ origin_of event
source_at events place event source reader is read =
    read.source_is ∙ ap origin_of (same_event events place event source reader is read)

pub no_demand_at : (level : Level) (events : List Event) (place : ℕ) (event : Event) (a b : ℕ) → slice_get events place ≡ Some event → (IsReading event → ⊥) →
    DemandsAt level events place a b → ⊥
no_demand_at level events place event a b is none (cell, d) = no_read_at events place event b d.reader is none (demand_read level events place cell a b d)

pub demand_source : (level : Level) (events : List Event) (place : ℕ) (event : Event) (a b : ℕ) → slice_get events place ≡ Some event → DemandsAt level events place a b →
    b ≡ origin_of event
demand_source level events place event a b is (cell, d) = source_at events place event b d.reader is (demand_read level events place cell a b d)
