-- What a pass has seen is a front of each legal history that goes on from it.
use Rattle.std.proofs.Common.{◌≡◌, ℕ, ◌<◌, List, [], ◌∷◌, ◌++◌, length, Option, Some, None, refl, ap, sym, ◌∙◌, subst, arith, length-append}
use Rattle.std.specs.List.{cons_option}
use mathlib.Core.List.{IsPrefix}
use Rattle.sql_tree.specs.declared.table.Table.{Table}
use Rattle.history_core.specs.declared.event.Event.{Event}
use Rattle.history_core.specs.Events.{names, defined_name, defined}
use Rattle.history_core.specs.Chronicle.{Chronicle, IsLegalChronicle}
use Rattle.turn_lock.specs.Passes.{PassValue, Joined}
use Rattle.turn_lock.proofs.Keys.{prefix_trans}
use Rattle.shared_book.specs.declared.entry.Entry.{Entry}
use Rattle.shared_book.specs.declared.entry.Entry.TheVariants.{Start, Happened}
use Rattle.shared_book.specs.Entries.{key_of, table_for, left_for, with_tables, entries_of, events_of, tables_of, if_some, level_of, initial_of, chronicle_of}
use Rattle.shared_book.specs.Books.{StartsLegal}
use Rattle.shared_book.specs.Fronts.{IsFrontOf, GoesOnFrom}
use Rattle.shared_book.proofs.Listing.{events_with, events_join, tables_with, tables_join, level_front, initial_front}
use Rattle.shared_book.proofs.Found.{legal_tables, some_of}

-- one event and its table, before a front of the others
one_more : (name : Option (List ℕ)) (es : List Event) (ts : List Table) (front : List Entry) → length ts ≡ length (cons_option name (names es)) →
    ((us : List Table) → us ≡ left_for name ts → length us ≡ defined es → length (tables_of front) ≡ defined (events_of front)) →
    length (if_some (table_for name ts) ++ tables_of front) ≡ length (cons_option name (names (events_of front)))
one_more None es ts front count later = later ts refl count
one_more (Some name) es [] front count later = absurd (omega arith)
one_more (Some name) es (t ∷ ts) front count later =
    let rest = later ts refl (omega arith) in
    omega arith

-- of events with the tables that they define each front has as many tables as its events define
front_defines : (es : List Event) (ts : List Table) (front rest : List Entry) → length ts ≡ defined es → front ++ rest ≡ with_tables es ts →
    length (tables_of front) ≡ defined (events_of front)
front_defines es ts [] rest count is = refl
front_defines [] ts (x ∷ front) rest count is = absurd (cc is)
front_defines (e ∷ es) ts (Start level initial ∷ front) rest count is = absurd (cc is)
front_defines (e ∷ es) ts (Happened z t ∷ front) rest count is =
    let event_is : z ≡ e = cc is in
    let table_is : t ≡ table_for (defined_name e) ts = cc is in
    let front_is : front ++ rest ≡ with_tables es (left_for (defined_name e) ts) = cc is in
    subst (λ (x : Event). length (if_some t ++ tables_of front) ≡ length (cons_option (defined_name x) (names (events_of front)))) (sym event_is)
    (subst (λ (x : Option Table). length (if_some x ++ tables_of front) ≡ length (cons_option (defined_name e) (names (events_of front)))) (sym table_is)
    (one_more (defined_name e) es ts front count
    (λ us us_are many. front_defines es us front rest many (front_is ∙ ap (with_tables es) (sym us_are)))))

history_defines : (history : Chronicle) (seen rest : List Entry) → IsLegalChronicle history → seen ++ rest ≡ entries_of history →
    length (tables_of seen) ≡ defined (events_of seen)
history_defines history [] rest legal is = refl
history_defines history (Start level initial ∷ seen) rest legal is =
    front_defines history.events history.tables seen rest (legal_tables history legal) (cc is)
history_defines history (Happened e t ∷ seen) rest legal is = absurd (cc is)

-- what was seen, which isn't nothing, is a front of each legal history that goes on from it
pub front_of : (history : Chronicle) (start seen : List Entry) → StartsLegal start → IsPrefix start seen → IsLegalChronicle history →
    IsPrefix seen (entries_of history) → IsFrontOf (chronicle_of seen) history
front_of history start seen starts begins legal (rest, is) =
    let some : 0 < length seen = omega (arith, some_of start starts, ap length begins.1, length-append start begins.0) in
    record {
      level = sym (level_front seen rest some) ∙ ap level_of is;
      initial = sym (initial_front seen rest some) ∙ ap initial_of is;
      later = events_of rest;
      events = sym (events_with history.events history.tables) ∙ ap events_of (sym is) ∙ events_join seen rest;
      more = tables_of rest;
      tables = sym (tables_with history.events history.tables (legal_tables history legal)) ∙ ap tables_of (sym is) ∙ tables_join seen rest;
      defined = history_defines history seen rest legal is;
    }

-- both passes of a join have seen fronts
pub both_fronts : (start : List Entry) (into from after : PassValue Entry) → StartsLegal start → IsPrefix start into.seen → IsPrefix start from.seen →
    Joined key_of into from after → (history : Chronicle) → IsLegalChronicle history → GoesOnFrom history after →
    IsFrontOf (chronicle_of into.seen) history × IsFrontOf (chronicle_of from.seen) history
both_fronts start into from after starts first second joined history legal goes = (
  front_of history start into.seen starts first legal (prefix_trans into.seen after.seen (entries_of history) joined.begins_with_both.0 goes),
  front_of history start from.seen starts second legal (prefix_trans from.seen after.seen (entries_of history) joined.begins_with_both.1 goes),
)
