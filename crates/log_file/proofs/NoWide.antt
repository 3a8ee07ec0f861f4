-- No value of a formed history is wide: each was there from the start, or was written, or isn't there.
use Rattle.std.proofs.Common.{◌≡◌, ℕ, ◌<◌, List, length, take, get_or, refl, sym, ◌∙◌, inl, inr, arith, subst, All, Some}
use Rattle.std.specs.List.{slice_get}
use Rattle.std.proofs.lemmas.List.{length-take}
use Rattle.std.proofs.Math.Nat.{min-le_left}
use Rattle.std.proofs.lemmas.List.Elements.{Contains-get_or}
use Rattle.std.proofs.lemmas.Option.{slice_get_within, slice_get-get_or}
use Rattle.cell_base.specs.declared.cell.Cell.{Cell}
use Rattle.cell_base.specs.declared.cell.Cell.TheVariants.{Presence, Field}
use Rattle.cell_base.specs.declared.value.Value.{Value}
use Rattle.cell_base.specs.declared.value.Value.TheVariants as values
use Rattle.history_core.specs.declared.event.Event.{Event}
use Rattle.history_core.specs.declared.event.Event.TheVariants.{Open, Close, Define, Look, Begin, Scan, Read, Own, Write, Commit, Rollback, Show}
use Rattle.history_core.specs.Relations.{LastWrites, WritesValue}
use Rattle.history_core.specs.Initial.{absent_value, WritesInitially, IsStorable, FitsCell, IsInitialState}
use Rattle.history_core.specs.Legal.{Follows, IsFormed}
use Rattle.history_core.proofs.Places.{slice_get-take}
use Rattle.history_log.specs.Log.{IsNotWide, HasNoWide}

storable : (value : Value) → IsStorable value → IsNotWide value
storable values.Unset is = tt
storable values.Null is = tt
storable (values.Flag flag) is = tt
storable (values.Int n) is = tt
storable (values.Wide n) is = is.1 n refl
storable (values.Text bytes) is = tt

fits : (initial : List (Cell × Value)) (cell : Cell) (value : Value) → FitsCell initial cell value → IsNotWide value
fits initial (Presence table key) value is = subst IsNotWide (sym is) tt
fits initial (Field table key column) value is = storable value is.1

absent : (cell : Cell) → IsNotWide (absent_value cell)
absent (Presence table key) = tt
absent (Field table key column) = tt

-- a place before so many
earlier : (events : List Event) (n place : ℕ) (event : Event) → slice_get (take n events) place ≡ Some event → slice_get events place ≡ Some event
earlier events n place event is =
    let within : place < length (take n events) = slice_get_within (take n events) place event is in
    sym (slice_get-take events n place (omega (arith, within, length-take n events, min-le_left n (length events)))) ∙ is

-- a value that was written may be stored
written : (initial : List (Cell × Value)) (events : List Event) → IsFormed initial events → (n number : ℕ) (cell : Cell) (value : Value) →
    LastWrites (take n events) number cell value → IsNotWide value
written initial events formed n number cell value last =
    let write = Write last.session cell value in
    let comes = formed last.place write (earlier events n last.place write last.write.is) in
    storable value comes.follows.2

initially : (initial : List (Cell × Value)) (cell : Cell) (value : Value) → IsInitialState initial → WritesInitially initial cell value → IsNotWide value
initially initial cell value is (inl there) = fits initial cell value (is.fits cell value there)
initially initial cell value is (inr away) = subst IsNotWide (sym away.1) (absent cell)

source_value : (initial : List (Cell × Value)) (events : List Event) → IsInitialState initial → IsFormed initial events → (n source : ℕ) (cell : Cell)
    (value : Value) → WritesValue initial (take n events) source cell value → IsNotWide value
source_value initial events is formed n source cell value (inl first) = initially initial cell value is first.1
source_value initial events is formed n source cell value (inr later) = written initial events formed n source cell value later.1

none_wide : (initial : List (Cell × Value)) (events : List Event) → IsInitialState initial → IsFormed initial events → (n : ℕ) (event : Event) →
    Follows initial (take n events) event → HasNoWide event
none_wide initial events is formed n (Open s) follows = tt
none_wide initial events is formed n (Close s) follows = tt
none_wide initial events is formed n (Define s name) follows = tt
none_wide initial events is formed n (Look s tables) follows = tt
none_wide initial events is formed n (Begin s level) follows = tt
none_wide initial events is formed n (Scan s table keys) follows = tt
none_wide initial events is formed n (Read s cell source count word value) follows = source_value initial events is formed n source cell value follows.3
none_wide initial events is formed n (Own s cell value) follows = written initial events formed n follows.0 cell value follows.2
none_wide initial events is formed n (Write s cell value) follows = storable value follows.2
none_wide initial events is formed n (Commit s) follows = tt
none_wide initial events is formed n (Rollback s) follows = tt
none_wide initial events is formed n (Show s number) follows = tt

pub events_have_no_wide : (initial : List (Cell × Value)) (events : List Event) → IsInitialState initial → IsFormed initial events → All HasNoWide events
events_have_no_wide initial events is formed k d small =
    let event : Event = get_or events k d in
    none_wide initial events is formed k event (formed k event (slice_get-get_or events k d small)).follows

pub initial_has_no_wide : (initial : List (Cell × Value)) → IsInitialState initial → All (λ x. IsNotWide x.1) initial
initial_has_no_wide initial is k d small =
    let x : Cell × Value = get_or initial k d in
    fits initial x.0 x.1 (is.fits x.0 x.1 (Contains-get_or initial k d small))
