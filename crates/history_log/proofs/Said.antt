-- That what was printed is a text of its history.
use Rattle.std.proofs.Common.{◌≡◌, ◌==◌, ℕ, ◌+◌, ◌<◌, List, [], ◌∷◌, ◌++◌, true, false, length, get_or, take, arith, refl, sym, ap, ◌∙◌, subst}
use Rattle.std.specs.List.{AllByRecursion}
use Rattle.std.proofs.lemmas.Bool.{cond_both}
use Rattle.std.proofs.lemmas.Bool.Decides.{nat_tests}
use Rattle.std.proofs.lemmas.List.{take_more}
use Rattle.cell_base.specs.declared.cell.Cell.{Cell}
use Rattle.cell_base.specs.declared.level.Level.{Level}
use Rattle.cell_base.specs.declared.value.Value.{Value}
use Rattle.history_core.specs.declared.event.Event.{Event}
use Rattle.history_core.specs.declared.event.Event.TheVariants.{Open, Close, Define, Look, Begin, Scan, Read, Own, Write, Commit, Rollback, Show}
use Rattle.history_core.specs.Initial.{IsInitialState}
use Rattle.history_log.specs.declared.version.Version.{Version}
use Rattle.history_log.specs.declared.version.Version.TheVariants.{Two, Three}
use Rattle.history_log.specs.Reading.{FitsEvent, IsEventIn}
use Rattle.history_log.specs.Log.{IsInitialCell, IsInitialIn, AreEventsIn, newest}
use Rattle.history_log.proofs.Misreads.{all_push}
use Rattle.history_log.proofs.RowLemmas.{no_rows}

-- one more of a list's items
pub all_step : {X : Type 0} (P : X → Type 0) (xs : List X) (i : ℕ) (x : X) → i < length xs → x ≡ get_or xs i x → AllByRecursion P (take i xs) → P x →
    AllByRecursion P (take (i + 1) xs)
all_step {X} P xs i x lt is all here =
    subst (λ (zs : List X). AllByRecursion P zs) (sym (take_more xs i x lt ∙ ap (λ y. take i xs ++ y ∷ []) (sym is))) (all_push P (take i xs) x all here)

nothing : (xs : List (Cell × Value)) → (length xs == 0) ≡ true → xs ≡ []
nothing [] none = refl
nothing (x ∷ xs) none = absurd (grind (arith, nat_tests))

something : (xs : List (Cell × Value)) → (length xs == 0) ≡ false → xs ≡ [] → ⊥
something [] some none = cc
something (x ∷ xs) some none = cc

pub initial_says : (initial : List (Cell × Value)) → IsInitialState initial → AllByRecursion IsInitialCell initial → IsInitialIn (newest initial) initial
initial_says initial state cells =
    cond_both (length initial == 0) Two Three (λ (v : Version). IsInitialIn v initial) (λ none. nothing initial none) (λ some. (something initial some, (state, cells)))

-- and what was said is an initial state
pub said_initial : (initial : List (Cell × Value)) → IsInitialIn (newest initial) initial → IsInitialState initial
said_initial initial =
    cond_both (length initial == 0) Two Three (λ (v : Version). IsInitialIn v initial → IsInitialState initial)
    (λ none is. subst (λ (cells : List (Cell × Value)). IsInitialState cells) (sym is) no_rows) (λ some is. is.1.0)

in_two : (level : Level) (event : Event) → IsEventIn Two level event
in_two level (Open s) = tt
in_two level (Close s) = tt
in_two level (Define s name) = tt
in_two level (Look s tables) = tt
in_two level (Begin s own) = tt
in_two level (Scan s table keys) = tt
in_two level (Read s cell source count word value) = tt
in_two level (Own s cell value) = tt
in_two level (Write s cell value) = tt
in_two level (Commit s) = tt
in_two level (Rollback s) = tt
in_two level (Show s number) = tt

in_three : (level : Level) (event : Event) → IsEventIn Three level event
in_three level (Open s) = tt
in_three level (Close s) = tt
in_three level (Define s name) = tt
in_three level (Look s tables) = tt
in_three level (Begin s own) = tt
in_three level (Scan s table keys) = tt
in_three level (Read s cell source count word value) = tt
in_three level (Own s cell value) = tt
in_three level (Write s cell value) = tt
in_three level (Commit s) = tt
in_three level (Rollback s) = tt
in_three level (Show s number) = tt

says : (v : Version) (level : Level) → ((event : Event) → IsEventIn v level event) → (events : List Event) → AllByRecursion FitsEvent events → AreEventsIn v level events
says v level each [] all = tt
says v level each (event ∷ events) all = ((all.0, each event), says v level each events all.1)

pub events_say : (initial : List (Cell × Value)) (level : Level) (events : List Event) → AllByRecursion FitsEvent events → AreEventsIn (newest initial) level events
events_say initial level events all =
    cond_both (length initial == 0) Two Three (λ (v : Version). AreEventsIn v level events)
    (λ none. says Two level (in_two level) events all) (λ some. says Three level (in_three level) events all)
