-- A past that nothing was added to.
use Rattle.std.proofs.Common.{◌≡◌, ℕ, ◌+◌, List, [], ◌++◌, length, map, ap, sym, ◌∙◌, arith, length-append}
use Rattle.std.proofs.lemmas.List.{append-nil, append_cancel_left, length-map, nil_from_length}
use Rattle.sql_tree.specs.declared.table.Table.{Table}
use Rattle.history_core.specs.declared.event.Event.{Event}
use Rattle.history_core.specs.Events.{names}
use Rattle.history_core.specs.Chronicle.{Chronicle, IsLegalChronicle}
use Rattle.history_book.specs.Book.{Past, SessionState, GoesOn}
use Rattle.valid_writes.specs.Owning.{OwnsAllThatComes}
use Rattle.valid_writes.proofs.SameHistory.{same_chronicle}

-- what is the same with more after it has nothing after it
none_after : {A : Type 0} (xs ys : List A) → xs ++ ys ≡ xs → ys ≡ []
none_after xs ys same = append_cancel_left xs ys [] (same ∙ sym (append-nil xs))

-- a legal history has as many tables as names that its events define
table_count : (h : Chronicle) → IsLegalChronicle h → length h.tables ≡ length (names h.events)
table_count h legal = sym (length-map h.tables (λ (t : Table). t.name)) ∙ ap length legal.tables.named

same_past : (a b : Past) → a.seen ≡ b.seen → a.own ≡ b.own → a.state ≡ b.state → a ≡ b
same_past a b seen own state =
    ap (λ (h : Chronicle). record { seen = h; own = a.own; state = a.state }) seen
    ∙ ap (λ (es : List Event). record { seen = b.seen; own = es; state = a.state }) own
    ∙ ap (λ (s : SessionState). record { seen = b.seen; own = b.own; state = s }) state

-- no event came, so no table did
same_tables : (old new : Chronicle) → IsLegalChronicle old → IsLegalChronicle new → new.events ≡ old.events → (more : List Table) →
    new.tables ≡ old.tables ++ more → new.tables ≡ old.tables
same_tables old new legal after events more grown =
    let counts : length old.tables + length more ≡ length old.tables =
    sym (length-append old.tables more) ∙ ap length (sym grown) ∙ table_count new after ∙ ap (λ (es : List Event). length (names es)) events
    ∙ sym (table_count old legal) in
    let none : more ≡ [] = nil_from_length more (omega arith) in
    grown ∙ ap (λ (ts : List Table). old.tables ++ ts) none ∙ append-nil old.tables

pub leaves_all : (old new : Past) → IsLegalChronicle old.seen → IsLegalChronicle new.seen → GoesOn old new → OwnsAllThatComes old new → new ≡ old
leaves_all old new legal after goes owns =
    let none : owns.added ≡ [] = none_after old.own owns.added (sym owns.own ∙ goes.own) in
    let events : new.seen.events ≡ old.seen.events =
    owns.seen ∙ ap (λ (es : List Event). old.seen.events ++ es) none ∙ append-nil old.seen.events in
    let tables : new.seen.tables ≡ old.seen.tables = same_tables old.seen new.seen legal after events goes.more goes.tables in
    same_past new old (same_chronicle new.seen old.seen goes.level goes.initial events tables) goes.own goes.state
