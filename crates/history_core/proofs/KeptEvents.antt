-- An event that neither opens, begins nor ends anything.
use Rattle.std.proofs.Common.{◌≡◌, ℕ, ◌+◌, ◌≤◌, List, [], ◌∷◌, ◌++◌, Some, None, true, length, arith, refl, ap, sym, ◌∙◌, subst, vec_capacity, add-zero, ◌↔◌}
use Rattle.std.specs.Prelude.{map}
use Rattle.std.proofs.lemmas.List.{length_push, map-append}
use Rattle.std.proofs.lemmas.List.Elements.{filter_map-append, All-push}
use Rattle.std.specs.List.{Contains}
use Rattle.history_core.specs.declared.event.Event.{Event}
use Rattle.history_core.specs.declared.event.Event.TheVariants.{Open, Close, Define, Look, Begin, Scan, Read, Own, Write, Commit, Rollback, Show}
use Rattle.cell_base.specs.declared.cell.Cell.{Cell}
use Rattle.cell_base.specs.declared.value.Value.{Value}
use Rattle.history_core.specs.Events.{names, weight_of, defined_name, session_in}
use Rattle.history_core.specs.Transactions.{IsPending}
use Rattle.history_core.specs.Legal.{MayCome}
use Rattle.sql_tree.specs.declared.table.Table.{Table}
use Rattle.history_core.specs.declared.kept.Kept.{Kept}
use Rattle.history_core.specs.declared.txn.Seen.{Seen}
use Rattle.history_core.specs.declared.txn.Txn.{Txn}
use Rattle.history_core.specs.Records.{IsRecordOf, seen_of, Saw}
use Rattle.history_core.specs.Kept.{IsSmall, IsKept, ChangesOne, AddsSeen, AddsWrite, IsUnnoted}
use Rattle.sound_table.specs.Sound.{IsSound}
use Rattle.history_core.proofs.TxnLemmas.{IsQuiet, record_goes, seen_same, seen_more, writes_same, writes_more, txns_quiet, txns_change}
use Rattle.history_core.proofs.SessionLemmas.{IsPlain, sessions_plain}
use Rattle.history_core.proofs.SmallLemmas.{small_more, load-push}
use Rattle.history_core.proofs.KeptLemmas.{AreTables, kept_grows, unique, is_middle, middle, shows_middle, kept_middle}

-- the pending transaction saw something
pub kept_seen :
    (old new : Kept) (e : Event) (k : ℕ) (x : Seen) → IsKept old → MayCome old.initial old.events.items e →
    IsPending old.events.items (k + 1) (session_in e) → seen_of (length old.events.items + 1) e ≡ Some x → weight_of e ≤ 4611686018427387904 →
    ChangesOne old.txns.items new.txns.items k (AddsSeen x) → new.initial ≡ old.initial → new.events.items ≡ old.events.items ++ e ∷ [] →
    new.tables.items ≡ old.tables.items → new.sessions.items ≡ old.sessions.items → new.load ≡ old.load + weight_of e → new.owed ≡ old.owed →
    length old.events.items + (old.owed + 1) ≤ vec_capacity new.events → IsKept new
kept_seen old new e k x is may pending shows light changes initial events tables sessions load owed room =
    let mid : is_middle e ≡ true = shows_middle (length old.events.items + 1) e x shows in
    let m = middle e mid in
    let before = is.txns.each k changes.before changes.is in
    let no_write : (s : ℕ) (y : Cell) (v : Value) → e ≡ Write s y v → ⊥ =
    λ s y v same.
    let both : Some x ≡ None = sym shows ∙ ap (seen_of (length old.events.items + 1)) same in cc
    in
    let after : IsRecordOf (old.events.items ++ e ∷ []) (k + 1) changes.after =
    subst (λ (t : Txn). IsRecordOf (old.events.items ++ e ∷ []) (k + 1) t) (sym changes.changes)
    (record_goes old.events.items e (k + 1) changes.before (record changes.before { seen = changes.before.seen ++ x ∷ [] }) before refl refl refl (λ _. m.plain.no_end)
    (seen_more old.events.items e (k + 1) changes.before x before pending shows)
    (writes_same old.events.items e (k + 1) changes.before before (λ s y v same _. no_write s y v same)))
    in
    kept_middle old new e is may mid light
    (rw changes.set_to (txns_change old.events.items e old.txns.items k changes.after (unique old.initial old.events.items is.formed.formed) m.plain.begins_none pending is.txns after))
    initial events tables sessions load owed room

-- the pending transaction wrote
pub kept_write :
    (old new : Kept) (s k : ℕ) (x : Cell) (v : Value) → IsKept old → MayCome old.initial old.events.items (Write s x v) → weight_of (Write s x v) ≤ 4611686018427387904 →
    IsPending old.events.items (k + 1) s → ChangesOne old.txns.items new.txns.items k (AddsWrite x v) →
    new.initial ≡ old.initial → new.events.items ≡ old.events.items ++ Write s x v ∷ [] →
    new.tables.items ≡ old.tables.items → new.sessions.items ≡ old.sessions.items → new.load ≡ old.load + weight_of (Write s x v) → new.owed ≡ old.owed →
    length old.events.items + (old.owed + 1) ≤ vec_capacity new.events → IsKept new
kept_write old new s k x v is may light pending changes initial events tables sessions load owed room =
    let before = is.txns.each k changes.before changes.is in
    let c = changes.changes in
    let after : IsRecordOf (old.events.items ++ Write s x v ∷ []) (k + 1) changes.after =
    record_goes old.events.items (Write s x v) (k + 1) changes.before changes.after before c.session c.level c.state (λ _. refl)
    (subst (λ (xs : List Seen). (y : Seen) → Contains xs y ↔ Saw (old.events.items ++ Write s x v ∷ []) (k + 1) y) (sym c.seen)
    (seen_same old.events.items (Write s x v) (k + 1) changes.before before (λ _. refl)))
    (writes_more old.events.items s (k + 1) x v changes.before changes.after.buffer.writes before pending c.puts)
    in
    kept_middle old new (Write s x v) is may refl light
    (rw changes.set_to (txns_change old.events.items (Write s x v) old.txns.items k changes.after (unique old.initial old.events.items is.formed.formed) refl pending is.txns after))
    initial events tables sessions load owed room

unnoted_middle : (e : Event) → IsUnnoted e → is_middle e ≡ true
unnoted_middle (Look s count) is = refl
unnoted_middle (Own s x v) is = refl
unnoted_middle (Show s number) is = refl
unnoted_middle (Open s) is = absurd is
unnoted_middle (Close s) is = absurd is
unnoted_middle (Define s name) is = absurd is
unnoted_middle (Begin s level) is = absurd is
unnoted_middle (Scan s table keys) is = absurd is
unnoted_middle (Read s cell source n u v) is = absurd is
unnoted_middle (Write s x v) is = absurd is
unnoted_middle (Commit s) is = absurd is
unnoted_middle (Rollback s) is = absurd is

unnoted_quiet : (events : List Event) (e : Event) → IsUnnoted e → IsQuiet events e
unnoted_quiet events (Look s count) is = record { goes = refl; shows = refl; writes = λ t x v h. cc }
unnoted_quiet events (Own s x v) is = record { goes = refl; shows = refl; writes = λ t y u h. cc }
unnoted_quiet events (Show s number) is = record { goes = refl; shows = refl; writes = λ t x v h. cc }
unnoted_quiet events (Open s) is = absurd is
unnoted_quiet events (Close s) is = absurd is
unnoted_quiet events (Define s name) is = absurd is
unnoted_quiet events (Begin s level) is = absurd is
unnoted_quiet events (Scan s table keys) is = absurd is
unnoted_quiet events (Read s cell source n u v) is = absurd is
unnoted_quiet events (Write s x v) is = absurd is
unnoted_quiet events (Commit s) is = absurd is
unnoted_quiet events (Rollback s) is = absurd is

pub kept_unnoted :
    (old new : Kept) (e : Event) → IsKept old → MayCome old.initial old.events.items e → IsUnnoted e → weight_of e ≤ 4611686018427387904 → new.initial ≡ old.initial → new.events.items ≡ old.events.items ++ e ∷ [] →
    new.tables.items ≡ old.tables.items → new.txns.items ≡ old.txns.items → new.sessions.items ≡ old.sessions.items → new.load ≡ old.load + weight_of e →
    new.owed ≡ old.owed → length old.events.items + (old.owed + 1) ≤ vec_capacity new.events → IsKept new
kept_unnoted old new e is may unnoted light initial events tables txns sessions load owed room =
    let mid = unnoted_middle e unnoted in
    let quiet = unnoted_quiet old.events.items e unnoted in
    kept_middle old new e is may mid light
    (rw txns (txns_quiet old.events.items e old.txns.items (middle e mid).plain.begins_none quiet is.txns))
    initial events tables sessions load owed room

pub names-push_define : (events : List Event) (s : ℕ) (name : List ℕ) → names (events ++ Define s name ∷ []) ≡ names events ++ name ∷ []
names-push_define events s name = filter_map-append defined_name events (Define s name ∷ [])

-- a table is defined
pub kept_defines :
    (old new : Kept) (s : ℕ) (table : Table) → IsKept old → MayCome old.initial old.events.items (Define s table.name) → IsSound table →
    new.initial ≡ old.initial → new.events.items ≡ old.events.items ++ Define s table.name ∷ [] → new.tables.items ≡ old.tables.items ++ table ∷ [] →
    new.txns.items ≡ old.txns.items → new.sessions.items ≡ old.sessions.items → new.load ≡ old.load + 1 →
    new.owed ≡ old.owed → length old.events.items + (old.owed + 1) ≤ vec_capacity new.events → IsKept new
kept_defines old new s table is may sound initial events tables txns sessions load owed room =
    let plain : IsPlain (Define s table.name) =
    record { no_open = λ t h. cc; no_close = λ t h. cc; no_begin = λ t l h. cc; no_end = refl; opens_none = refl; begins_none = refl } in
    let small : IsSmall old.initial (old.events.items ++ Define s table.name ∷ []) (old.owed + 0) =
    small_more old.initial old.events.items (Define s table.name) old.owed 0 0 0 refl may.fits (omega arith) refl refl
    (let h = is.small.begins in omega arith) (let h = is.small.opens in omega arith) refl is.small
    in
    let long = length_push old.events.items (Define s table.name) in
    let named : map (λ (t : Table). t.name) (old.tables.items ++ table ∷ []) ≡ names (old.events.items ++ Define s table.name ∷ []) =
    map-append (λ (t : Table). t.name) old.tables.items (table ∷ []) ∙ ap (λ (ns : List (List ℕ)). ns ++ table.name ∷ []) is.formed.tables.named
    ∙ sym (names-push_define old.events.items s table.name)
    in
    let tables_are : AreTables (old.events.items ++ Define s table.name ∷ []) (old.tables.items ++ table ∷ []) =
    (named, All-push IsSound old.tables.items table is.formed.tables.sound sound) in
    kept_grows old new (Define s table.name) is may initial events
    (rw txns (txns_quiet old.events.items (Define s table.name) old.txns.items refl (record { goes = refl; shows = refl; writes = λ t x v h. cc }) is.txns))
    (rw sessions (sessions_plain old.events.items (Define s table.name) old.sessions.items plain is.sessions))
    (rw tables tables_are)
    (load ∙ ap (λ (n : ℕ). n + 1) is.load ∙ sym (load-push old.initial old.events.items (Define s table.name)))
    (rw (owed, sessions) is.owed)
    (rw owed (subst (λ (n : ℕ). IsSmall old.initial (old.events.items ++ Define s table.name ∷ []) n) (add-zero old.owed) small))
    (rw owed (omega arith))
