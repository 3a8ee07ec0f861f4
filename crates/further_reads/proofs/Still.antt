-- An event that neither begins nor reads leaves the forced pairs.
use Rattle.std.proofs.Common.{◌≡◌, ℕ, ◌<◌, List, [], ◌∷◌, ◌++◌, false, length, arith, refl, subst, inl, inr, ◌⊎◌}
use Rattle.std.proofs.lemmas.Option.{slice_get_within}
use Rattle.cell_base.specs.declared.cell.Cell.{Cell}
use Rattle.cell_base.specs.declared.key.Key.{Key}
use Rattle.cell_base.specs.declared.value.Value.{Value}
use Rattle.history_core.specs.declared.event.Event.{Event}
use Rattle.history_core.specs.declared.event.Event.TheVariants.{Open, Close, Define, Look, Begin, Scan, Read, Own, Write, Commit, Rollback, Show}
use Rattle.history_core.specs.Events.{session_in, is_begin}
use Rattle.history_core.specs.Relations.{Gives, Reads, Precedes, Demands}
use Rattle.history_core.specs.Legal.{Follows, ListsKeys}
use Rattle.history_core.specs.Forced.{IsForced}
use Rattle.history_core.proofs.Grown.{reads_back, writes_back, precedes_back}
use Rattle.history_core.proofs.Prefixes.{IsSound, runs_still, visible_still, pending_unseen, precedes_scan, visible_scan, scan_source, scan_overlooks}
use Rattle.saturation.proofs.After.{precedes_kept, demands_kept}
use Rattle.further_reads.specs.Begun.{ForcesNothing}

-- ---- what any event keeps

pub forced_kept : (events : List Event) (e : Event) (a b : ℕ) → IsForced events a b → IsForced (events ++ e ∷ []) a b
forced_kept events e a b (inl precedes) = inl (precedes_kept events e a b precedes)
forced_kept events e a b (inr d) = inr (demands_kept events e a b d)

-- ---- an event that gives nothing

abbrev GivesNothing : Event → Type 0
GivesNothing e = (is_begin e ≡ false) × ((cell : Cell) (source : ℕ) → Gives e cell source → ⊥)

precedes_still : (events : List Event) (e : Event) → GivesNothing e → (a b : ℕ) → Precedes (events ++ e ∷ []) a b → Precedes events a b
precedes_still events e (other, none) a b precedes =
    elim (precedes_back events e other a b precedes) [ inl old ↦ old | inr new ↦ absurd (none new.0 a new.1.1) ]

reads_still :
    (events : List Event) (e : Event) → GivesNothing e → (reader p : ℕ) (cell : Cell) (source : ℕ) → Reads (events ++ e ∷ []) reader p cell source →
    Reads events reader p cell source
reads_still events e (other, none) reader p cell source reads =
    elim (reads_back events e reader p cell source reads) [ inl old ↦ old | inr new ↦ absurd (none cell source new.2) ]

demands_still :
    (events : List Event) (e : Event) → IsSound events → GivesNothing e → (a b : ℕ) → Demands (events ++ e ∷ []) a b → Demands events a b
demands_still events e sound gives a b d =
    let sees = visible_still d.visible.level events (events ++ e ∷ []) (precedes_still events e gives) (reads_still events e gives) d.reader d.place a d.visible.sees in
    elim (writes_back events e a d.cell d.writes) [
      | inr new ↦ absurd (pending_unseen d.visible.level events sound a (session_in e) d.reader d.place new.1.1 sees)
      | inl old ↦ record {
        reader = d.reader;
        place = d.place;
        cell = d.cell;
        reads = reads_still events e gives d.reader d.place d.cell b d.reads;
        other = d.other;
        writes = old;
        visible = record { level = d.visible.level; runs = runs_still events e d.reader d.visible.level gives.0 d.visible.runs; sees = sees };
      }
    ]

-- ---- a scan

demands_scan :
    (initial : List (Cell × Value)) (events : List Event) (s table : ℕ) (keys : List Key) → ListsKeys initial events s table keys →
    (a b : ℕ) → Demands (events ++ Scan s table keys ∷ []) a b → Demands events a b
demands_scan initial events s table keys lists a b d =
    elim (writes_back events (Scan s table keys) a d.cell d.writes) [
      | inr new ↦ cc (new.1.0)
      | inl writes ↦
          elim (reads_back events (Scan s table keys) d.reader d.place d.cell b d.reads) [
            | inr new ↦
                let initial_is : b ≡ 0 = scan_source s table keys d.cell b new.2 in
                let apart = d.other in
                absurd (scan_overlooks initial events s table keys d.cell b a lists new.2 (omega arith) writes)
            | inl old ↦
                let within : d.place < length events = slice_get_within events d.place old.event old.of_reader.is in
                record {
                  reader = d.reader;
                  place = d.place;
                  cell = d.cell;
                  reads = old;
                  other = d.other;
                  writes = writes;
                  visible = record {
                    level = d.visible.level;
                    runs = runs_still events (Scan s table keys) d.reader d.visible.level refl d.visible.runs;
                    sees = visible_scan d.visible.level events s table keys d.reader d.place a within d.visible.sees;
                  };
                }
          ]
    ]

-- ---- any of them

record IsScan (e : Event) : Type 0 where
  session : ℕ
  table : ℕ
  keys : List Key
  is : e ≡ Scan session table keys

gives_or_scans : (e : Event) → ForcesNothing e → GivesNothing e ⊎ IsScan e
gives_or_scans (Begin s level) nothing = absurd nothing
gives_or_scans (Read s x w n u v) nothing = absurd nothing
gives_or_scans (Scan s table keys) nothing = inr record { session = s; table = table; keys = keys; is = refl }
gives_or_scans (Open s) nothing = inl (refl, λ cell source gives. gives)
gives_or_scans (Close s) nothing = inl (refl, λ cell source gives. gives)
gives_or_scans (Define s name) nothing = inl (refl, λ cell source gives. gives)
gives_or_scans (Look s count) nothing = inl (refl, λ cell source gives. gives)
gives_or_scans (Own s x v) nothing = inl (refl, λ cell source gives. gives)
gives_or_scans (Write s x v) nothing = inl (refl, λ cell source gives. gives)
gives_or_scans (Commit s) nothing = inl (refl, λ cell source gives. gives)
gives_or_scans (Rollback s) nothing = inl (refl, λ cell source gives. gives)
gives_or_scans (Show s number) nothing = inl (refl, λ cell source gives. gives)

pub others_precede :
    (events : List Event) (e : Event) → ForcesNothing e → (a b : ℕ) → Precedes (events ++ e ∷ []) a b → Precedes events a b
others_precede events e nothing a b precedes =
    elim (gives_or_scans e nothing) [
      | inl gives ↦ precedes_still events e gives a b precedes
      | inr scan ↦
          precedes_scan events scan.session scan.table scan.keys a b (subst (λ (f : Event). Precedes (events ++ f ∷ []) a b) scan.is precedes)
    ]

others_demand :
    (initial : List (Cell × Value)) (events : List Event) (e : Event) → IsSound events → Follows initial events e → ForcesNothing e →
    (a b : ℕ) → Demands (events ++ e ∷ []) a b → Demands events a b
others_demand initial events e sound follows nothing a b d =
    elim (gives_or_scans e nothing) [
      | inl gives ↦ demands_still events e sound gives a b d
      | inr scan ↦
          let follows_scan : Follows initial events (Scan scan.session scan.table scan.keys) = subst (λ (f : Event). Follows initial events f) scan.is follows in
          demands_scan initial events scan.session scan.table scan.keys follows_scan.2 a b (subst (λ (f : Event). Demands (events ++ f ∷ []) a b) scan.is d)
    ]

pub others_force :
    (initial : List (Cell × Value)) (events : List Event) (e : Event) → IsSound events → Follows initial events e → ForcesNothing e →
    (a b : ℕ) → IsForced (events ++ e ∷ []) a b → IsForced events a b
others_force initial events e sound follows nothing a b (inl precedes) = inl (others_precede events e nothing a b precedes)
others_force initial events e sound follows nothing a b (inr d) = inr (others_demand initial events e sound follows nothing a b d)
