-- No two tables of a formed history have one name, so the table of a definition stands where its name does.
use Rattle.std.proofs.Common.{◌≡◌, ℕ, ◌+◌, List, [], ◌∷◌, ◌++◌, length, map, take, ap, sym, ◌∙◌, append_assoc, length-append}
use Rattle.std.specs.List.{slice_get}
use Rattle.std.proofs.lemmas.List.{map-append, take_at, length-map}
use Rattle.sql_tree.specs.declared.table.Table.{Table}
use Rattle.history_core.specs.declared.event.Event.{Event}
use Rattle.history_core.specs.declared.event.Event.TheVariants.{Define}
use Rattle.history_core.specs.Events.{names, defined}
use Rattle.history_core.specs.Chronicle.{IsLegalChronicle}
use Rattle.history_book.specs.Book.{Past}
use Rattle.committed_rows.proofs.Tables.{names-more, names_once}
use Rattle.program_laws.proofs.Lists.{middle_place}
use Rattle.program_laws.proofs.Leads.{Leads}

abbrev pub name_of : Table → List ℕ
name_of table = table.name

-- where the last table has the name of the definition that comes next, it is the table of that definition
pub record Placed (p q : Past) (before : List Table) (table : Table) : Type 0 where
  pub place : length before ≡ defined p.seen.events
  pub there : take (defined p.seen.events) q.seen.tables ≡ before
  pub next : take (defined p.seen.events + 1) q.seen.tables ≡ before ++ table ∷ []

pub placed : (p m q : Past) (s : ℕ) (table : Table) (before : List Table) → IsLegalChronicle q.seen → Leads m q →
    m.seen.events ≡ p.seen.events ++ Define s table.name ∷ [] → m.seen.tables ≡ before ++ table ∷ [] → Placed p q before table
placed p m q s table before legal leads seen tables =
    let whole : q.seen.tables ≡ before ++ table ∷ leads.more =
    leads.tables ∙ ap (λ (ts : List Table). ts ++ leads.more) tables ∙ append_assoc before (table ∷ []) leads.more in
    let events : names q.seen.events ≡ names p.seen.events ++ table.name ∷ names leads.events =
    ap names leads.seen ∙ names-more m.seen.events leads.events
    ∙ ap (λ (es : List Event). names es ++ names leads.events) seen
    ∙ ap (λ (ns : List (List ℕ)). ns ++ names leads.events) (names-more p.seen.events (Define s table.name ∷ []))
    ∙ append_assoc (names p.seen.events) (table.name ∷ []) (names leads.events) in
    let named : names q.seen.events ≡ map name_of before ++ table.name ∷ map name_of leads.more =
    sym legal.tables.named ∙ ap (λ (ts : List Table). map name_of ts) whole ∙ map-append name_of before (table ∷ leads.more) in
    let once = names_once q.seen.initial q.seen.events legal.legal.formed in
    let place : length (map name_of before) ≡ length (names p.seen.events) =
    once (length (map name_of before)) (length (names p.seen.events)) table.name
    (ap (λ (ns : List (List ℕ)). slice_get ns (length (map name_of before))) named ∙ middle_place (map name_of before) (map name_of leads.more) table.name)
    (ap (λ (ns : List (List ℕ)). slice_get ns (length (names p.seen.events))) events ∙ middle_place (names p.seen.events) (names leads.events) table.name) in
    let here : length before ≡ defined p.seen.events = sym (length-map before name_of) ∙ place in
    record {
      place = here;
      there = ap (λ (ts : List Table). take (defined p.seen.events) ts) whole ∙ take_at before (table ∷ leads.more) (defined p.seen.events) here;
      next =
          ap (λ (ts : List Table). take (defined p.seen.events + 1) ts) (whole ∙ sym (append_assoc before (table ∷ []) leads.more))
          ∙ take_at (before ++ table ∷ []) leads.more (defined p.seen.events + 1)
          (length-append before (table ∷ []) ∙ ap (λ (n : ℕ). n + 1) here);
    }
