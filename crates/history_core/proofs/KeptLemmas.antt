-- How what is kept goes on standing for the events: what all events have in common.
use Rattle.std.proofs.Common.{◌≡◌, ℕ, ◌+◌, ◌≤◌, List, [], ◌∷◌, ◌++◌, Some, None, All, Bool, true, false, length, arith, refl, ap, sym, ◌∙◌, subst, vec_capacity, cond, add-zero}
use Rattle.std.specs.Prelude.{map}
use Rattle.std.proofs.lemmas.List.{length_push}
use Rattle.std.specs.List.{cons_option}
use Rattle.std.specs.List.{sum_by}
use Rattle.cell_base.specs.declared.level.Level.{Level}
use Rattle.cell_base.specs.declared.cell.Cell.{Cell}
use Rattle.cell_base.specs.declared.value.Value.{Value}
use Rattle.history_core.specs.declared.event.Event.{Event}
use Rattle.history_core.specs.declared.event.Event.TheVariants.{Open, Close, Define, Look, Begin, Scan, Read, Own, Write, Commit, Rollback, Show}
use Rattle.history_core.specs.Events.{names, weight_of, defined_name}
use Rattle.history_core.specs.Initial.{load_of}
use Rattle.history_core.specs.Transactions.{IsPending}
use Rattle.history_core.specs.Legal.{IsFormed, MayCome}
use Rattle.history_core.proofs.Prefixes.{formed_push, sound_of}
use Rattle.history_core.proofs.Offers.{pending_unique}
use Rattle.sql_tree.specs.declared.table.Table.{Table}
use Rattle.history_core.specs.declared.kept.Kept.{Kept}
use Rattle.history_core.specs.declared.txn.Seen.{Seen}
use Rattle.history_core.specs.Records.{is_any_end, seen_of}
use Rattle.history_core.specs.Kept.{StandsForTxns, StandsForSessions, IsSmall, IsKept, owed_by}
use Rattle.sound_table.specs.Sound.{IsSound}
use Rattle.history_core.proofs.SessionLemmas.{IsPlain, sessions_plain}
use Rattle.history_core.proofs.SmallLemmas.{small_more, load-push}

-- the tables are those that the events define, and sound
abbrev pub AreTables : List Event → List Table → Type 0
AreTables events tables = (map (λ (t : Table). t.name) tables ≡ names events) × All IsSound tables

pub are_tables : (kept : Kept) → IsKept kept → AreTables kept.events.items kept.tables.items
are_tables kept is = (is.formed.tables.named, is.formed.tables.sound)

pub kept_grows :
    (old new : Kept) (e : Event) → IsKept old → MayCome old.initial old.events.items e → new.initial ≡ old.initial → new.events.items ≡ old.events.items ++ e ∷ [] →
    StandsForTxns (old.events.items ++ e ∷ []) new.txns.items → StandsForSessions (old.events.items ++ e ∷ []) new.sessions.items →
    AreTables (old.events.items ++ e ∷ []) new.tables.items → new.load ≡ load_of old.initial (old.events.items ++ e ∷ []) →
    new.owed ≡ sum_by owed_by new.sessions.items → IsSmall old.initial (old.events.items ++ e ∷ []) new.owed →
    length (old.events.items ++ e ∷ []) + new.owed ≤ vec_capacity new.events → IsKept new
kept_grows old new e is may initial events txns sessions tables load owed small room =
    record {
      formed = record {
        initial = rw initial is.formed.initial;
        formed = rw (initial, events) (formed_push old.initial old.events.items e is.formed.formed may);
        tables = record { named = rw events tables.0; sound = tables.1 };
      };
      txns = rw events txns;
      sessions = rw events sessions;
      load = rw (initial, events) load;
      owed = owed;
      small = rw (initial, events) small;
      room = let long : length new.events.items ≡ length (old.events.items ++ e ∷ []) = ap length events in omega arith;
    }

-- a session has one pending transaction
pub unique : (initial : List (Cell × Value)) (events : List Event) → IsFormed initial events → (s a b : ℕ) → IsPending events a s → IsPending events b s → a ≡ b
unique initial events formed s a b = pending_unique events (sound_of initial events formed) s a b

-- the events that neither open, close, define, begin nor end anything
abbrev pub is_middle : Event → Bool
is_middle (Look s count) = true
is_middle (Scan s table keys) = true
is_middle (Read s cell source n u v) = true
is_middle (Own s x v) = true
is_middle (Write s x v) = true
is_middle (Show s number) = true
is_middle _ = false

pub record IsMiddle (e : Event) : Type 0 where
  pub plain : IsPlain e
  pub not_last : is_any_end e ≡ false
  pub no_name : defined_name e ≡ None

pub middle : (e : Event) → is_middle e ≡ true → IsMiddle e
middle (Look s count) is = record { plain = record { no_open = λ t h. cc; no_close = λ t h. cc; no_begin = λ t l h. cc; no_end = refl; opens_none = refl; begins_none = refl }; not_last = refl; no_name = refl }
middle (Scan s table keys) is = record { plain = record { no_open = λ t h. cc; no_close = λ t h. cc; no_begin = λ t l h. cc; no_end = refl; opens_none = refl; begins_none = refl }; not_last = refl; no_name = refl }
middle (Read s cell source n u v) is = record { plain = record { no_open = λ t h. cc; no_close = λ t h. cc; no_begin = λ t l h. cc; no_end = refl; opens_none = refl; begins_none = refl }; not_last = refl; no_name = refl }
middle (Own s x v) is = record { plain = record { no_open = λ t h. cc; no_close = λ t h. cc; no_begin = λ t l h. cc; no_end = refl; opens_none = refl; begins_none = refl }; not_last = refl; no_name = refl }
middle (Write s x v) is = record { plain = record { no_open = λ t h. cc; no_close = λ t h. cc; no_begin = λ t l h. cc; no_end = refl; opens_none = refl; begins_none = refl }; not_last = refl; no_name = refl }
middle (Show s number) is = record { plain = record { no_open = λ t h. cc; no_close = λ t h. cc; no_begin = λ t l h. cc; no_end = refl; opens_none = refl; begins_none = refl }; not_last = refl; no_name = refl }
middle (Open s) is = cc
middle (Close s) is = cc
middle (Define s name) is = cc
middle (Begin s level) is = cc
middle (Commit s) is = cc
middle (Rollback s) is = cc

pub shows_middle : (n : ℕ) (e : Event) (x : Seen) → seen_of n e ≡ Some x → is_middle e ≡ true
shows_middle n (Scan s table keys) x is = refl
shows_middle n (Read s cell source m u v) x is = refl
shows_middle n (Look s count) x is = cc
shows_middle n (Own s y v) x is = cc
shows_middle n (Write s y v) x is = cc
shows_middle n (Show s number) x is = cc
shows_middle n (Open s) x is = cc
shows_middle n (Close s) x is = cc
shows_middle n (Define s name) x is = cc
shows_middle n (Begin s level) x is = cc
shows_middle n (Commit s) x is = cc
shows_middle n (Rollback s) x is = cc

pub names-push : (events : List Event) (e : Event) → defined_name e ≡ None → names (events ++ e ∷ []) ≡ names events
names-push [] e none = rw none refl
names-push (f ∷ fs) e none = ap (cons_option (defined_name f)) (names-push fs e none)

pub tables_still :
    (events : List Event) (e : Event) (tables : List Table) → defined_name e ≡ None → AreTables events tables → AreTables (events ++ e ∷ []) tables
tables_still events e tables none are = (are.0 ∙ sym (names-push events e none), are.1)

-- an event in the middle leaves the sessions and the tables, and the room that is owed
pub kept_middle :
    (old new : Kept) (e : Event) → IsKept old → MayCome old.initial old.events.items e → is_middle e ≡ true → weight_of e ≤ 4611686018427387904 →
    StandsForTxns (old.events.items ++ e ∷ []) new.txns.items → new.initial ≡ old.initial → new.events.items ≡ old.events.items ++ e ∷ [] →
    new.tables.items ≡ old.tables.items → new.sessions.items ≡ old.sessions.items → new.load ≡ old.load + weight_of e → new.owed ≡ old.owed →
    length old.events.items + (old.owed + 1) ≤ vec_capacity new.events → IsKept new
kept_middle old new e is may mid light txns initial events tables sessions load owed room =
    let m = middle e mid in
    let small : IsSmall old.initial (old.events.items ++ e ∷ []) (old.owed + 0) =
    small_more old.initial old.events.items e old.owed 0 0 0 m.not_last may.fits light
    (ap (λ (b : Bool). cond b 1 0) m.plain.begins_none) (ap (λ (b : Bool). cond b 1 0) m.plain.opens_none)
    (let h = is.small.begins in omega arith) (let h = is.small.opens in omega arith) refl is.small
    in
    let long = length_push old.events.items e in
    kept_grows old new e is may initial events txns
    (rw sessions (sessions_plain old.events.items e old.sessions.items m.plain is.sessions))
    (rw tables (tables_still old.events.items e old.tables.items m.no_name (are_tables old is)))
    (load ∙ ap (λ (n : ℕ). n + weight_of e) is.load ∙ sym (load-push old.initial old.events.items e))
    (rw (owed, sessions) is.owed)
    (rw owed (subst (λ (n : ℕ). IsSmall old.initial (old.events.items ++ e ∷ []) n) (add-zero old.owed) small))
    (rw owed (omega arith))
