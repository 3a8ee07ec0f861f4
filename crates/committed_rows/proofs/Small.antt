-- A legal history that starts after another one has room for its events.
use Rattle.std.proofs.Common.{◌≡◌, ℕ, ◌+◌, ◌<◌, List, [], ◌∷◌, ◌++◌, Some, false, length, take, arith, refl, ap, ◌∙◌}
use Rattle.std.specs.List.{slice_get}
use Rattle.std.proofs.lemmas.List.{length-take}
use Rattle.std.proofs.lemmas.Option.{slice_get_within}
use Rattle.cell_base.specs.declared.level.Level.{Level}
use Rattle.sql_tree.specs.declared.table.Table.{Table}
use Rattle.history_core.specs.declared.event.Event.{Event}
use Rattle.history_core.specs.declared.event.Event.TheVariants.{Open, Close, Define}
use Rattle.history_core.specs.Initial.{initial_load, load_of}
use Rattle.history_core.specs.Chronicle.{Chronicle, IsLegalChronicle}
use Rattle.history_core.specs.Records.{is_any_end}
use Rattle.history_core.proofs.SmallLemmas.{fits_load, length-le-weights}
use Rattle.committed_rows.specs.Start.{StartsAfter, definitions}

-- the last of the definitions
last_defined : (t : Table) (ts : List Table) (rest : List Event) →
    (e : Event) × (slice_get (definitions (t ∷ ts) ++ rest) (length ts) ≡ Some e) × (is_any_end e ≡ false)
last_defined t [] rest = (Define 1 t.name, refl, refl)
last_defined t (u ∷ us) rest = last_defined u us rest

-- the event after which the first session is closed
last_event : (ts : List Table) (rest : List Event) →
    (e : Event) × (slice_get (Open 1 ∷ (definitions ts ++ rest)) (length ts) ≡ Some e) × (is_any_end e ≡ false)
last_event [] rest = (Open 1, refl, refl)
last_event (t ∷ ts) rest = last_defined t ts rest

short_take : (events : List Event) (n : ℕ) (e : Event) → slice_get events n ≡ Some e → length (take n events) ≡ n
short_take events n e is =
    let within : n < length events = slice_get_within events n e is in
    omega (arith, within, length-take n events)

pub legal_is_small : (level : Level) (setup start : Chronicle) → StartsAfter level setup start → IsLegalChronicle start →
    initial_load start.initial + length start.tables < 1048576
legal_is_small level setup start starts legal =
    let last = last_event setup.tables (Close 1 ∷ []) in
    let is : slice_get start.events (length setup.tables) ≡ Some last.0 =
    ap (λ (es : List Event). slice_get es (length setup.tables)) starts.events ∙ last.1 in
    let fits = (legal.legal.formed (length setup.tables) last.0 is).fits in
    let load : load_of start.initial (take (length setup.tables) start.events) < 1048576 =
    fits_load start.initial (take (length setup.tables) start.events) last.0 last.2 fits in
    let long = length-le-weights (take (length setup.tables) start.events) in
    let count = short_take start.events (length setup.tables) last.0 is in
    let tables : length start.tables ≡ length setup.tables = ap (λ (ts : List Table). length ts) starts.tables in
    omega arith
