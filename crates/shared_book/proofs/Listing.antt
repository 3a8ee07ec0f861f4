-- Histories as lists of entries.
use Rattle.std.proofs.Common.{◌≡◌, ◌≢◌, ℕ, ◌<◌, ◌==◌, eq-eqb, Bool, true, false, cond, List, [], ◌∷◌, ◌++◌, length, refl, ap, sym, ◌∙◌, arith, append_assoc, Option, Some, None}
use Rattle.std.specs.List.{filter, cons_option, All}
use Rattle.std.proofs.lemmas.List.Elements.{All-nil, All-cons, filter-append}
use Rattle.sql_tree.specs.declared.table.Table.{Table}
use Rattle.cell_base.specs.declared.level.Level.{Level}
use Rattle.cell_base.specs.declared.cell.Cell.{Cell}
use Rattle.cell_base.specs.declared.value.Value.{Value}
use Rattle.history_core.specs.declared.event.Event.{Event}
use Rattle.history_core.specs.Events.{session_in, defined_name, names, defined}
use Rattle.history_core.specs.Chronicle.{Chronicle, own_events}
use Rattle.turn_lock.specs.Entries.{HasKey, with_key, IsComplete}
use Rattle.turn_lock.proofs.Keys.{no_more, complete_key}
use Rattle.shared_book.specs.declared.entry.Entry.{Entry}
use Rattle.shared_book.specs.declared.entry.Entry.TheVariants.{Start, Happened}
use Rattle.shared_book.specs.Entries.{key_of, table_for, left_for, with_tables, entries_of, events_of, tables_of, if_some, level_of, initial_of, chronicle_of}

no_tables : (tables : List Table) → length tables ≡ 0 → tables ≡ []
no_tables [] none = refl
no_tables (t ∷ ts) none = absurd (omega arith)

-- one event and its table, before others
front_joins : (e : Event) (name : Option (List ℕ)) (es fs : List Event) (ts us : List Table) → length ts ≡ length (cons_option name (names es)) →
    ((vs : List Table) → length vs ≡ defined es → with_tables (es ++ fs) (vs ++ us) ≡ with_tables es vs ++ with_tables fs us) →
    Happened e (table_for name (ts ++ us)) ∷ with_tables (es ++ fs) (left_for name (ts ++ us))
    ≡ Happened e (table_for name ts) ∷ (with_tables es (left_for name ts) ++ with_tables fs us)
front_joins e None es fs ts us count later = ap (λ (l : List Entry). Happened e None ∷ l) (later ts count)
front_joins e (Some name) es fs [] us count later = absurd (omega arith)
front_joins e (Some name) es fs (t ∷ ts) us count later = ap (λ (l : List Entry). Happened e (Some t) ∷ l) (later ts (omega arith))

-- where the tables are just those that the first events define, the rest have the others
pub joined : (es fs : List Event) (ts us : List Table) → length ts ≡ defined es → with_tables (es ++ fs) (ts ++ us) ≡ with_tables es ts ++ with_tables fs us
joined [] fs ts us count = ap (λ (l : List Table). with_tables fs (l ++ us)) (no_tables ts count)
joined (e ∷ es) fs ts us count = front_joins e (defined_name e) es fs ts us count (λ vs many. joined es fs vs us many)

pub events_with : (es : List Event) (ts : List Table) → events_of (with_tables es ts) ≡ es
events_with [] ts = refl
events_with (e ∷ es) ts = ap (λ (l : List Event). e ∷ l) (events_with es (left_for (defined_name e) ts))

front_tables : (name : Option (List ℕ)) (es : List Event) (ts : List Table) → length ts ≡ length (cons_option name (names es)) →
    ((vs : List Table) → length vs ≡ defined es → tables_of (with_tables es vs) ≡ vs) →
    if_some (table_for name ts) ++ tables_of (with_tables es (left_for name ts)) ≡ ts
front_tables None es ts count later = later ts count
front_tables (Some name) es [] count later = absurd (omega arith)
front_tables (Some name) es (t ∷ ts) count later = ap (λ (l : List Table). t ∷ l) (later ts (omega arith))

pub tables_with : (es : List Event) (ts : List Table) → length ts ≡ defined es → tables_of (with_tables es ts) ≡ ts
tables_with [] ts count = sym (no_tables ts count)
tables_with (e ∷ es) ts count = front_tables (defined_name e) es ts count (λ vs many. tables_with es vs many)

-- the entries of a history stand for it
pub same_history : (h : Chronicle) → length h.tables ≡ defined h.events → chronicle_of (entries_of h) ≡ h
same_history h count = λ i. record { level = h.level; initial = h.initial; events = events_with h.events h.tables i; tables = tables_with h.events h.tables count i }

pub events_join : (xs ys : List Entry) → events_of (xs ++ ys) ≡ events_of xs ++ events_of ys
events_join [] ys = refl
events_join (Start level initial ∷ xs) ys = events_join xs ys
events_join (Happened e t ∷ xs) ys = ap (λ (l : List Event). e ∷ l) (events_join xs ys)

pub tables_join : (xs ys : List Entry) → tables_of (xs ++ ys) ≡ tables_of xs ++ tables_of ys
tables_join [] ys = refl
tables_join (Start level initial ∷ xs) ys = tables_join xs ys
tables_join (Happened e t ∷ xs) ys =
    ap (λ (l : List Table). if_some t ++ l) (tables_join xs ys) ∙ sym (append_assoc (if_some t) (tables_of xs) (tables_of ys))

pub level_front : (xs ys : List Entry) → 0 < length xs → level_of (xs ++ ys) ≡ level_of xs
level_front [] ys some = absurd (omega arith)
level_front (Start level initial ∷ xs) ys some = refl
level_front (Happened e t ∷ xs) ys some = refl

pub initial_front : (xs ys : List Entry) → 0 < length xs → initial_of (xs ++ ys) ≡ initial_of xs
initial_front [] ys some = absurd (omega arith)
initial_front (Start level initial ∷ xs) ys some = refl
initial_front (Happened e t ∷ xs) ys some = refl

none_passes : {X : Type 0} (p : X → Bool) (x : X) (xs : List X) (b : Bool) → p x ≡ b → cond b (x ∷ filter p xs) (filter p xs) ≡ [] → (p x ≡ false) × (filter p xs ≡ [])
none_passes p x xs true is e = absurd (let z : x ∷ filter p xs ≡ [] = e in cc z)
none_passes p x xs false is e = (is, e)

-- no entry has the key, so no event is of the session
pub no_event : (s : ℕ) (xs : List Entry) → with_key key_of s xs ≡ [] → All (λ (e : Event). session_in e ≢ s) (events_of xs)
no_event s [] none = All-nil (λ (e : Event). session_in e ≢ s)
no_event s (Start level initial ∷ xs) none =
    no_event s xs (none_passes (λ (x : Entry). key_of x == s) (Start level initial) xs (0 == s) refl none).1
no_event s (Happened e t ∷ xs) none =
    let both = none_passes (λ (x : Entry). key_of x == s) (Happened e t) xs (session_in e == s) refl none in
    All-cons (λ (x : Event). session_in x ≢ s) e (events_of xs)
    (λ same. absurd (let z : true ≡ false = sym (eq-eqb (session_in e) s same) ∙ both.0 in cc z))
    (no_event s xs both.1)

-- what comes after a list in which the own entries of a key are whole has none of this key
pub rest_foreign : (s : ℕ) (seen rest own : List Entry) → HasKey key_of s own → IsComplete key_of seen own → IsComplete key_of (seen ++ rest) own →
    All (λ (e : Event). session_in e ≢ s) (events_of rest)
rest_foreign s seen rest own has before after =
    no_event s rest (no_more (with_key key_of s seen) (with_key key_of s rest)
    (sym (filter-append (λ (x : Entry). key_of x == s) seen rest) ∙ complete_key key_of (seen ++ rest) own s after has ∙ sym (complete_key key_of seen own s before has)))

events_cond : (b : Bool) (e : Event) (t : Option Table) (xs : List Entry) → events_of (cond b (Happened e t ∷ xs) xs) ≡ cond b (e ∷ events_of xs) (events_of xs)
events_cond true e t xs = refl
events_cond false e t xs = refl

start_cond : (b : Bool) (level : Level) (initial : List (Cell × Value)) (xs : List Entry) → events_of (cond b (Start level initial ∷ xs) xs) ≡ events_of xs
start_cond true level initial xs = refl
start_cond false level initial xs = refl

-- the events of the entries of one key are those of the session
pub keyed_events : (s : ℕ) (xs : List Entry) → events_of (with_key key_of s xs) ≡ own_events (events_of xs) s
keyed_events s [] = refl
keyed_events s (Start level initial ∷ xs) = start_cond (0 == s) level initial (with_key key_of s xs) ∙ keyed_events s xs
keyed_events s (Happened e t ∷ xs) =
    events_cond (session_in e == s) e t (with_key key_of s xs) ∙ (λ i. cond (session_in e == s) (e ∷ keyed_events s xs i) (keyed_events s xs i))
