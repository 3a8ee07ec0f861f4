-- A history has at most 64 tables.
use Rattle.std.proofs.Common.{◌≡◌, ℕ, ◌+◌, ◌<◌, ◌≤◌, List, [], ◌∷◌, ◌++◌, None, length, arith, refl, ap, sym, ◌∙◌}
use Rattle.std.proofs.lemmas.List.{length-map, length_push}
use Rattle.cell_base.specs.declared.cell.Cell.{Cell}
use Rattle.cell_base.specs.declared.value.Value.{Value}
use Rattle.sql_tree.specs.declared.table.Table.{Table}
use Rattle.history_core.specs.declared.event.Event.{Event}
use Rattle.history_core.specs.declared.event.Event.TheVariants.{Open, Close, Define, Look, Begin, Scan, Read, Own, Write, Commit, Rollback, Show}
use Rattle.history_core.specs.Events.{names, defined, defined_name}
use Rattle.history_core.specs.Legal.{IsFormed, MayCome}
use Rattle.history_core.specs.Chronicle.{Chronicle, IsFormedChronicle, IsLegalChronicle}
use Rattle.history_core.proofs.Prefixes.{along, formed_back}
use Rattle.history_core.proofs.SmallLemmas.{fits_define}
use Rattle.history_core.proofs.KeptLemmas.{names-push}
use Rattle.history_core.proofs.KeptEvents.{names-push_define}

-- an event that defines nothing leaves the number of definitions
same : (h : List Event) (e : Event) → defined_name e ≡ None → defined h ≤ 64 → defined (h ++ e ∷ []) ≤ 64
same h e nameless few = let stays : defined (h ++ e ∷ []) ≡ defined h = ap length (names-push h e nameless) in omega arith

few_with : (initial : List (Cell × Value)) (h : List Event) (e : Event) → defined h ≤ 64 → MayCome initial h e → defined (h ++ e ∷ []) ≤ 64
few_with initial h (Define s name) before may =
    let room : defined h < 64 = fits_define initial h s name may.fits in
    let more : defined (h ++ Define s name ∷ []) ≡ defined h + 1 = ap length (names-push_define h s name) ∙ length_push (names h) name in
    omega arith
few_with initial h (Open s) before may = same h (Open s) refl before
few_with initial h (Close s) before may = same h (Close s) refl before
few_with initial h (Look s count) before may = same h (Look s count) refl before
few_with initial h (Begin s level) before may = same h (Begin s level) refl before
few_with initial h (Scan s table keys) before may = same h (Scan s table keys) refl before
few_with initial h (Read s cell source n u v) before may = same h (Read s cell source n u v) refl before
few_with initial h (Own s x v) before may = same h (Own s x v) refl before
few_with initial h (Write s x v) before may = same h (Write s x v) refl before
few_with initial h (Commit s) before may = same h (Commit s) refl before
few_with initial h (Rollback s) before may = same h (Rollback s) refl before
few_with initial h (Show s number) before may = same h (Show s number) refl before

-- at most 64 tables are defined
pub defined_few : (initial : List (Cell × Value)) (events : List Event) → IsFormed initial events → defined events ≤ 64
defined_few initial events =
    along (λ (h : List Event). IsFormed initial h → defined h ≤ 64)
    (λ h e holds formed. let both = formed_back initial h e formed in few_with initial h e (holds both.0) both.1)
    [] events (λ formed. omega arith)

-- a legal history is a formed one
pub formed_of : (history : Chronicle) → IsLegalChronicle history → IsFormedChronicle history
formed_of history is = record { initial = is.initial; formed = is.legal.formed; tables = is.tables }

pub tables_defined : (history : Chronicle) → IsFormedChronicle history → length history.tables ≡ defined history.events
tables_defined history is = sym (length-map history.tables (λ (t : Table). t.name)) ∙ ap length is.tables.named

pub tables_few : (history : Chronicle) → IsFormedChronicle history → length history.tables ≤ 64
tables_few history is =
    let count = tables_defined history is in
    let few = defined_few history.initial history.events is.formed in
    omega arith
