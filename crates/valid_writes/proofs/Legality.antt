-- What keeps a history legal.
use Rattle.std.proofs.Common.{◌-◌, get_or, inl, inr, ◌≡◌, ℕ, ◌+◌, ◌<◌, ◌≤◌, List, [], ◌∷◌, ◌++◌, Option, Some, None, Ok, Err, Result, true, false, zero, suc, length, map, arith, refl, ap, sym, ◌∙◌, subst, ◌↔◌}
use Rattle.std.specs.Prelude.{IsErrAnd}
use Rattle.std.specs.List.{slice_get, Contains, Any}
use Rattle.std.specs.List.Sorted.{IsStrictlyIncreasing}
use Rattle.std.proofs.lemmas.Bool.{cases_lt}
use Rattle.history_core.proofs.Offers.{writer_bounded}
use Rattle.indexed_history.proofs.Ascending.{contains_get}
use Rattle.std.proofs.lemmas.List.{map-append}
use Rattle.std.proofs.lemmas.List.Elements.{All-push}
use Rattle.std.proofs.lemmas.Bool.Decides.{nat_tests}
use Rattle.cell_base.specs.declared.value.Value.{Value}
use Rattle.cell_base.specs.declared.cell.Cell.{Cell}
use Rattle.sql_tree.specs.declared.table.Table.{Table}
use Rattle.sound_table.specs.Sound.{IsSound}
use Rattle.history_core.specs.declared.fault.Limit.{Limit}
use Rattle.history_core.specs.declared.fault.Limit.TheVariants.{Load}
use Rattle.history_core.specs.declared.fault.BookFault.{BookFault}
use Rattle.history_core.specs.declared.fault.BookFault.TheVariants.{Full}
use Rattle.history_core.specs.declared.event.Event.{Event}
use Rattle.history_core.specs.declared.event.Event.TheVariants.{Open, Close, Define, Look, Begin, Scan, Read, Own, Write, Commit, Rollback, Show}
use Rattle.history_core.specs.Events.{begun, names, defined_name, opened, is_open_event}
use Rattle.history_core.specs.Initial.{load_of}
use Rattle.graph_base.proofs.Places.{count_by-push}
use Rattle.history_core.proofs.SessionLemmas.{opened-push_other}
use Rattle.history_core.proofs.SmallLemmas.{fits_open}
use Rattle.history_core.specs.Relations.{Writes}
use Rattle.history_core.specs.Legal.{IsFormed, IsOffered, IsOffer, MayCome, Follows, full_for, full_load}
use Rattle.history_core.specs.Records.{IsNoDefinition, is_any_end}
use Rattle.history_core.specs.Chronicle.{Chronicle, IsLegalChronicle, followed_by, with_table}
use Rattle.history_core.proofs.Prefixes.{Contains-from_slice_get, along, formed_back, legal_push}
use Rattle.history_core.proofs.KeptLemmas.{names-push}
use Rattle.history_core.proofs.KeptEvents.{names-push_define}

option_none : {X : Type 0} (o : Option X) → ((x : X) → o ≡ Some x → ⊥) → o ≡ None
option_none None h = refl
option_none (Some x) h = absurd (h x refl)

-- what was appended was not full
pub fits_from_ok :
    (initial : List (Cell × Value)) (events : List Event) (e : Event) (r : Result (Unit {0}) BookFault) (u : Unit {0}) → r ≡ Ok u →
    ((limit : Limit) → (r ≡ Err (Full limit)) ↔ (full_for initial events e ≡ Some limit)) → full_for initial events e ≡ None
fits_from_ok initial events e r u ok full = option_none (full_for initial events e) (λ limit h. let err : r ≡ Err (Full limit) = (full limit).1 h in cc)

-- a fault that was handed on is that of the call
pub fault_is : {A B : Type 0} (r : Result A BookFault) (given : Result B BookFault) (fault : BookFault) (limit : Limit) → r ≡ Err fault →
    IsErrAnd given (λ e. e ≡ fault) → given ≡ Err (Full limit) → r ≡ Err (Full limit)
fault_is r (Ok x) fault limit is gives same = absurd gives
fault_is r (Err e) fault limit is gives same = let here : e ≡ Full limit = cc in is ∙ ap (λ (f : BookFault). Err f) (sym gives ∙ here)

-- the end of a transaction or of a session always fits
pub fits_end : (initial : List (Cell × Value)) (events : List Event) (e : Event) → is_any_end e ≡ true → full_for initial events e ≡ None
fits_end initial events (Close s) is = refl
fits_end initial events (Commit s) is = refl
fits_end initial events (Rollback s) is = refl
fits_end initial events (Open s) is = cc
fits_end initial events (Define s name) is = cc
fits_end initial events (Look s count) is = cc
fits_end initial events (Begin s level) is = cc
fits_end initial events (Scan s table keys) is = cc
fits_end initial events (Read s cell source n u v) is = cc
fits_end initial events (Own s x v) is = cc
fits_end initial events (Write s x v) is = cc
fits_end initial events (Show s number) is = cc

pub end_offered : (events : List Event) (e : Event) → is_any_end e ≡ true → IsOffered events e
end_offered events (Close s) is = tt
end_offered events (Commit s) is = tt
end_offered events (Rollback s) is = tt
end_offered events (Open s) is = cc
end_offered events (Define s name) is = cc
end_offered events (Look s count) is = cc
end_offered events (Begin s level) is = cc
end_offered events (Scan s table keys) is = cc
end_offered events (Read s cell source n u v) is = cc
end_offered events (Own s x v) is = cc
end_offered events (Write s x v) is = cc
end_offered events (Show s number) is = cc

no_name : (e : Event) → IsNoDefinition e → defined_name e ≡ None
no_name (Define s name) is = absurd is
no_name (Open s) is = refl
no_name (Close s) is = refl
no_name (Look s count) is = refl
no_name (Begin s level) is = refl
no_name (Scan s table keys) is = refl
no_name (Read s cell source n u v) is = refl
no_name (Own s x v) is = refl
no_name (Write s x v) is = refl
no_name (Commit s) is = refl
no_name (Rollback s) is = refl
no_name (Show s number) is = refl

pub end_no_definition : (e : Event) → is_any_end e ≡ true → IsNoDefinition e
end_no_definition (Close s) is = tt
end_no_definition (Commit s) is = tt
end_no_definition (Rollback s) is = tt
end_no_definition (Open s) is = tt
end_no_definition (Define s name) is = cc
end_no_definition (Look s count) is = tt
end_no_definition (Begin s level) is = tt
end_no_definition (Scan s table keys) is = tt
end_no_definition (Read s cell source n u v) is = tt
end_no_definition (Own s x v) is = tt
end_no_definition (Write s x v) is = tt
end_no_definition (Show s number) is = tt

-- a further event keeps a history legal
pub legal_with :
    (old : Chronicle) (e : Event) → IsLegalChronicle old → Follows old.initial old.events e → full_for old.initial old.events e ≡ None →
    IsOffered old.events e → IsNoDefinition e → IsLegalChronicle (followed_by old e)
legal_with old e is follows fits offered no_definition = record {
  initial = is.initial;
  legal = legal_push old.initial old.events e is.legal (record { follows = follows; fits = fits }) offered;
  tables = record {
    named = is.tables.named ∙ sym (names-push old.events e (no_name e no_definition));
    sound = is.tables.sound;
  };
}

pub legal_defined :
    (old : Chronicle) (s : ℕ) (table : Table) → IsLegalChronicle old → Follows old.initial old.events (Define s table.name) →
    full_for old.initial old.events (Define s table.name) ≡ None →
    IsSound table → IsLegalChronicle (with_table old s table)
legal_defined old s table is follows fits sound = record {
  initial = is.initial;
  legal = legal_push old.initial old.events (Define s table.name) is.legal (record { follows = follows; fits = fits }) tt;
  tables = record {
    named = map-append (λ (t : Table). t.name) old.tables (table ∷ []) ∙ ap (λ (xs : List (List ℕ)). xs ++ table.name ∷ []) is.tables.named
        ∙ sym (names-push_define old.events s table.name);
    sound = All-push IsSound old.tables table is.tables.sound sound;
  };
}

-- the member of an offer is a writer
pub picked_writes :
    (events : List Event) (session : ℕ) (cell : Cell) (offer : List ℕ) (k source : ℕ) → IsOffer events session cell offer →
    slice_get offer k ≡ Some source → Writes events source cell
picked_writes events session cell offer k source is picked =
    ((is.exact source).0 (Contains-from_slice_get offer k source picked)).0

-- at most 4,096 sessions are opened
pub opened_few : (initial : List (Cell × Value)) (events : List Event) → IsFormed initial events → opened events ≤ 4096
opened_few initial events =
    along (λ (h : List Event). IsFormed initial h → opened h ≤ 4096)
    (λ h e holds formed. let both = formed_back initial h e formed in few h e (holds both.0) both.1)
    [] events (λ formed. omega arith)
  where
    same : (h : List Event) (e : Event) → is_open_event e ≡ false → opened h ≤ 4096 → opened (h ++ e ∷ []) ≤ 4096
    same h e other few = let stays : opened (h ++ e ∷ []) ≡ opened h = opened-push_other h e other in omega arith

    few : (h : List Event) (e : Event) → opened h ≤ 4096 → MayCome initial h e → opened (h ++ e ∷ []) ≤ 4096
    few h (Open s) before may =
        let room : opened h < 4096 = fits_open initial h s may.fits in
        let more : opened (h ++ Open s ∷ []) ≡ opened h + 1 = count_by-push is_open_event h (Open s) in
        omega arith
    few h (Define s name) before may = same h (Define s name) refl before
    few h (Close s) before may = same h (Close s) refl before
    few h (Look s count) before may = same h (Look s count) refl before
    few h (Begin s level) before may = same h (Begin s level) refl before
    few h (Scan s table keys) before may = same h (Scan s table keys) refl before
    few h (Read s cell source n u v) before may = same h (Read s cell source n u v) refl before
    few h (Own s x v) before may = same h (Own s x v) refl before
    few h (Write s x v) before may = same h (Write s x v) refl before
    few h (Commit s) before may = same h (Commit s) refl before
    few h (Rollback s) before may = same h (Rollback s) refl before
    few h (Show s number) before may = same h (Show s number) refl before

-- an event that only the load keeps out
pub load_keeps_out : (initial : List (Cell × Value)) (events : List Event) → 1048576 ≤ load_of initial events → full_load initial events ≡ Some Load
load_keeps_out initial events full = grind (arith, nat_tests, full)

name_there : (tables : List Table) (t : Table) → Contains tables t → Contains (map (λ (u : Table). u.name) tables) t.name
name_there [] t (k, within, at) = absurd (omega arith)
name_there (u ∷ us) t (zero, within, at) = (0, omega arith, ap (λ (v : Table). v.name) at)
name_there (u ∷ us) t (suc k, within, at) =
    let on = name_there us t (k, omega arith, at) in
    let below = on.1 in
    (suc on.0, omega arith, on.2)

name_back : (tables : List Table) (name : List ℕ) → Contains (map (λ (u : Table). u.name) tables) name → Any (λ (t : Table). t.name ≡ name) tables
name_back [] name (k, within, at) = absurd (omega arith)
name_back (u ∷ us) name (zero, within, at) = (0, u, omega arith, refl, at)
name_back (u ∷ us) name (suc k, within, at) =
    let on = name_back us name (k, omega arith, at) in
    let below = on.2 in
    (suc on.0, on.1, omega arith, on.3, on.4)

-- a table has the name exactly where a definition has it
pub taken_name :
    (history : Chronicle) (name : List ℕ) → IsLegalChronicle history → Any (λ (t : Table). t.name ≡ name) history.tables →
    Contains (names history.events) name
taken_name history name is (k, t, within, at, same) =
    subst (λ (ns : List (List ℕ)). Contains ns name) is.tables.named
    (subst (λ (n : List ℕ). Contains (map (λ (u : Table). u.name) history.tables) n) same (name_there history.tables t (k, within, at)))

pub name_taken :
    (history : Chronicle) (name : List ℕ) → IsLegalChronicle history → Contains (names history.events) name →
    Any (λ (t : Table). t.name ≡ name) history.tables
name_taken history name is member =
    name_back history.tables name (subst (λ (ns : List (List ℕ)). Contains ns name) (sym is.tables.named) member)

-- an offer has no more members than there are transactions
pub offer_short :
    (events : List Event) (session : ℕ) (cell : Cell) (offer : List ℕ) → IsOffer events session cell offer → length offer ≤ begun events + 1
offer_short events session cell offer is =
    elim (cases_lt 0 (length offer)) [
      | inl some ↦
          let high : length offer - 1 ≤ get_or offer (length offer - 1) 0 = rising offer is.ascending (length offer - 1) (omega arith) in
          let writes = ((is.exact (get_or offer (length offer - 1) 0)).0 (contains_get offer (length offer - 1) (get_or offer (length offer - 1) 0) (omega arith) refl)).0 in
          let low = writer_bounded events (get_or offer (length offer - 1) 0) cell writes in
          omega arith
      | inr none ↦ omega arith
    ]
  where
    rising : (xs : List ℕ) → IsStrictlyIncreasing xs → (k : ℕ) → k < length xs → k ≤ get_or xs k 0
    rising xs rises zero within = omega arith
    rising xs rises (suc k) within =
        let before : k ≤ get_or xs k 0 = rising xs rises k (omega arith) in
        let step : get_or xs k 0 < get_or xs (k + 1) 0 = rises k (omega arith) in
        let same : get_or xs (suc k) 0 ≡ get_or xs (k + 1) 0 = ap (λ (i : ℕ). get_or xs i 0) (omega arith) in
        omega arith

pub offer_few :
    (events : List Event) (session : ℕ) (cell : Cell) (offer : List ℕ) → begun events ≤ 65535 → IsOffer events session cell offer → length offer ≤ 65536
offer_few events session cell offer small is = let short = offer_short events session cell offer is in omega arith
