-- The demands of a pending transaction with a further read.
use Rattle.std.proofs.Common.{◌≡◌, ℕ, ◌+◌, ◌<◌, List, length, arith, refl, sym, ◌∙◌, subst, inl, inr, ◌⊎◌}
use Rattle.std.proofs.lemmas.Option.{slice_get_within}
use Rattle.cell_base.specs.declared.level.Level.{Level}
use Rattle.cell_base.specs.declared.cell.Cell.{Cell}
use Rattle.cell_base.specs.declared.value.Value.{Value}
use Rattle.history_core.specs.declared.event.Event.{Event}
use Rattle.history_core.specs.declared.event.Event.TheVariants.{Read}
use Rattle.history_core.specs.Events.{begun}
use Rattle.history_core.specs.Transactions.{RunsAt, IsPending}
use Rattle.history_core.specs.Relations.{Writes, Reads, IsVisibleAt}
use Rattle.history_core.specs.Forced.{IsDemandOf}
use Rattle.history_core.proofs.Places.{runs_unique}
use Rattle.history_core.proofs.Grown.{runs_kept, reads_back}
use Rattle.history_core.proofs.Prefixes.{IsSound}
use Rattle.history_core.proofs.Offers.{writer_bounded}
use Rattle.saturation.specs.Laws.{with_read}
use Rattle.saturation.proofs.After.{reads_kept, writes_kept, read_now, writes_before}
use Rattle.saturation.proofs.Decides.{committed_bounded}
use Rattle.further_reads.specs.Further.{IsNewDemand}
use Rattle.further_reads.proofs.Sights.{sees_kept, sees_with, with_sees, earlier_sees, newly_sees}

-- a demand of the reader, seen at its level
record IsDemandAt (level : Level) (events now : List Event) (reader a b : ℕ) : Type 0 where
  place : ℕ
  cell : Cell
  reads : Reads now reader place cell b
  other : a ≡ b → ⊥
  writes : Writes events a cell
  sees : IsVisibleAt level now reader place a

demand_at :
    (level : Level) (events : List Event) (s k : ℕ) (x : Cell) (w n u : ℕ) (v : Value) → RunsAt events k level → (a b : ℕ) →
    IsDemandOf (with_read events s x w n u v) k a b → IsDemandAt level events (with_read events s x w n u v) k a b
demand_at level events s k x w n u v runs a b (d, same) =
    let now = with_read events s x w n u v in
    let runs_now : RunsAt now k d.visible.level = subst (λ (r : ℕ). RunsAt now r d.visible.level) same d.visible.runs in
    let level_is : d.visible.level ≡ level = runs_unique now k d.visible.level level runs_now (runs_kept events (Read s x w n u v) k level runs) in
    record {
      place = d.place;
      cell = d.cell;
      reads = subst (λ (r : ℕ). Reads now r d.place d.cell b) same d.reads;
      other = d.other;
      writes = writes_before events s x w n u v a d.cell d.writes;
      sees = subst (λ (l : Level). IsVisibleAt l now k d.place a) level_is (subst (λ (r : ℕ). IsVisibleAt d.visible.level now r d.place a) same d.visible.sees);
    }

-- what the reader demands then it demanded before, or it is a new demand
pub demands_with :
    (level : Level) (events : List Event) → IsSound events → (s k : ℕ) (x : Cell) (w n u : ℕ) (v : Value) → IsPending events k s → RunsAt events k level →
    (a b : ℕ) → IsDemandOf (with_read events s x w n u v) k a b → IsDemandOf events k a b ⊎ IsNewDemand level events k x w a b
demands_with level events sound s k x w n u v pending runs a b demand =
    let d = demand_at level events s k x w n u v runs a b demand in
    elim (reads_back events (Read s x w n u v) k d.place d.cell b d.reads) [
      | inl old ↦
          let within : d.place < length events = slice_get_within events d.place old.event old.of_reader.is in
          elim (earlier_sees level events sound s k x w n u v pending d.place a (omega arith) d.sees) [
            | inl saw ↦ inl (
              record {
                reader = k;
                place = d.place;
                cell = d.cell;
                reads = old;
                other = d.other;
                writes = d.writes;
                visible = record { level = level; runs = runs; sees = saw };
              },
              refl,
            )
            | inr newly ↦ inr (inr record { place = d.place; cell = d.cell; reads = old; other = d.other; writes = d.writes; seen = newly })
          ]
      | inr new ↦
          let at = new.0 in
          inr (inl record {
            of_source = sym new.2.1;
            other = λ same. d.other (same ∙ new.2.1);
            writes = subst (λ (y : Cell). Writes events a y) (sym new.2.0) d.writes;
            sees = sees_with level events sound s k x w n u v pending d.place a (omega arith) d.sees;
          })
    ]

-- and what it demanded before and the new demands, it demands then
pub with_demands :
    (level : Level) (events : List Event) (s k : ℕ) (x : Cell) (w n u : ℕ) (v : Value) → IsPending events k s → RunsAt events k level →
    (a b : ℕ) → IsDemandOf events k a b ⊎ IsNewDemand level events k x w a b → IsDemandOf (with_read events s x w n u v) k a b
with_demands level events s k x w n u v pending runs a b (inl (d, same)) = (
  record {
    reader = d.reader;
    place = d.place;
    cell = d.cell;
    reads = reads_kept events (Read s x w n u v) d.reader d.place d.cell b d.reads;
    other = d.other;
    writes = writes_kept events (Read s x w n u v) a d.cell d.writes;
    visible = record {
      level = d.visible.level;
      runs = runs_kept events (Read s x w n u v) d.reader d.visible.level d.visible.runs;
      sees = sees_kept d.visible.level events (Read s x w n u v) d.reader d.place a d.visible.sees;
    };
  },
  same,
)
with_demands level events s k x w n u v pending runs a b (inr (inl d)) = (
  record {
    reader = k;
    place = length events;
    cell = x;
    reads = subst (λ (c : ℕ). Reads (with_read events s x w n u v) k (length events) x c) (sym d.of_source) (read_now events s k x w n u v pending);
    other = λ same. d.other (same ∙ d.of_source);
    writes = writes_kept events (Read s x w n u v) a x d.writes;
    visible = record {
      level = level;
      runs = runs_kept events (Read s x w n u v) k level runs;
      sees = with_sees level events s k x w n u v pending a d.sees;
    };
  },
  refl,
)
with_demands level events s k x w n u v pending runs a b (inr (inr d)) = (
  record {
    reader = k;
    place = d.place;
    cell = d.cell;
    reads = reads_kept events (Read s x w n u v) k d.place d.cell b d.reads;
    other = d.other;
    writes = writes_kept events (Read s x w n u v) a d.cell d.writes;
    visible = record {
      level = level;
      runs = runs_kept events (Read s x w n u v) k level runs;
      sees = newly_sees level events s k x w n u v pending d.place a d.seen;
    };
  },
  refl,
)

-- ---- the numbers of new demands

pub new_demand_apart : (level : Level) (events : List Event) (k : ℕ) (x : Cell) (w a b : ℕ) → IsNewDemand level events k x w a b → a ≡ b → ⊥
new_demand_apart level events k x w a b (inl d) same = d.other (same ∙ d.of_source)
new_demand_apart level events k x w a b (inr d) same = d.other same

-- the first of a new demand writes some cell
pub new_demand_writes : (level : Level) (events : List Event) (k : ℕ) (x : Cell) (w a b : ℕ) → IsNewDemand level events k x w a b → (cell : Cell) × Writes events a cell
new_demand_writes level events k x w a b (inl d) = (x, d.writes)
new_demand_writes level events k x w a b (inr d) = (d.cell, d.writes)

pub new_demand_range :
    (level : Level) (events : List Event) → IsSound events → (k : ℕ) (x : Cell) (w : ℕ) → Writes events w x → (a b : ℕ) → IsNewDemand level events k x w a b →
    (a < begun events + 1) × (b < begun events + 1)
new_demand_range level events sound k x w writes a b (inl d) =
    let small : w < begun events + 1 = writer_bounded events w x writes in
    let same = d.of_source in (writer_bounded events a x d.writes, omega arith)
new_demand_range level events sound k x w writes a b (inr d) =
    (writer_bounded events a d.cell d.writes, committed_bounded events b (sound.sources k d.place d.cell b d.reads))
