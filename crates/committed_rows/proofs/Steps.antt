-- The first session of a history, as it is opened, defines tables, and is closed.
use Rattle.std.proofs.Common.{◌≡◌, ◌≢◌, ℕ, ◌+◌, ◌<◌, ◌≤◌, zero, suc, All, get_or, List, [], ◌∷◌, ◌++◌, Option, Some, None, Ok, Err, Result, length, map, take, arith, refl, ap, sym, ◌∙◌, subst, inl, inr, nat_le}
use Rattle.std.specs.Prelude.{IfOk}
use Rattle.std.specs.Bool.{if◌then◌else◌}
use Rattle.std.specs.List.{Contains, slice_get}
use Rattle.std.proofs.lemmas.Bool.{cases_lt}
use Rattle.std.proofs.lemmas.Bool.Decides.{nat_tests}
use Rattle.std.proofs.Math.Nat.{min-le_left}
use Rattle.std.proofs.lemmas.Option.{slice_get_within, slice_get-get_or}
use Rattle.std.proofs.lemmas.List.{append-nil, append_assoc, append_cancel_left, length-append, length-map, length_push, map-append, length-take}
use Rattle.std.proofs.lemmas.List.Sums.{sum_by-cons}
use Rattle.std.proofs.lemmas.List.Elements.{All-contains}
use Rattle.txn_buffer.proofs.Lists.{at_contains, contains_at}
use Rattle.cell_base.specs.declared.cell.Cell.{Cell}
use Rattle.cell_base.specs.declared.value.Value.{Value}
use Rattle.sql_tree.specs.declared.table.Table.{Table}
use Rattle.sound_table.specs.Sound.{IsSound}
use Rattle.history_core.specs.declared.event.Event.{Event}
use Rattle.history_core.specs.declared.event.Event.TheVariants.{Open, Close, Define, Look}
use Rattle.history_core.specs.declared.fault.BookFault.{BookFault}
use Rattle.history_core.specs.declared.fault.DefineAnswer.{DefineAnswer}
use Rattle.history_core.specs.declared.fault.DefineAnswer.TheVariants.{Defined, Taken}
use Rattle.history_core.specs.declared.fault.Limit.{Limit}
use Rattle.history_core.specs.declared.fault.Limit.TheVariants.{Load, Tables}
use Rattle.history_core.specs.Events.{names, weight_of, weights_of, defined}
use Rattle.history_core.specs.Initial.{initial_load, load_of}
use Rattle.history_core.specs.Legal.{full_for}
use Rattle.history_core.specs.Chronicle.{Chronicle, IsLegalChronicle}
use Rattle.history_book.specs.Book.{Past, in_session, session_of, GoesOn, Adds, AnswersDefine}
use Rattle.history_core.proofs.KeptLemmas.{names-push}
use Rattle.history_core.proofs.Places.{slice_get-take}
use Rattle.valid_writes.specs.Owning.{OwnsAllThatComes}
use Rattle.valid_writes.proofs.SameHistory.{same_chronicle}
use Rattle.committed_rows.specs.Start.{definitions}
use Rattle.committed_rows.specs.Defining.{defined_so_far, started, IsFresh, HasDefined, DefinesMore, MayDefine, CanStand}

abbrev name_of : Table → List ℕ
name_of table = table.name

-- ---- the events that session 1 has made

definitions_push : (ts : List Table) (t : Table) → definitions (ts ++ t ∷ []) ≡ definitions ts ++ Define 1 t.name ∷ []
definitions_push ts t = map-append (λ (x : Table). Define 1 x.name) ts (t ∷ [])

names_of_definitions : (ts : List Table) → names (definitions ts) ≡ map name_of ts
names_of_definitions [] = refl
names_of_definitions (t ∷ ts) = ap (λ (ns : List (List ℕ)). t.name ∷ ns) (names_of_definitions ts)

weights_of_definitions : (ts : List Table) → weights_of (definitions ts) ≡ length ts
weights_of_definitions [] = refl
weights_of_definitions (t ∷ ts) =
    let more = sum_by-cons weight_of (Define 1 t.name) (definitions ts) in
    let on = weights_of_definitions ts in
    omega arith

-- a list as long as another one, of which it is the front, is that one
same_front : (old more : List Table) (ns : List (List ℕ)) → map name_of (old ++ more) ≡ ns → length ns ≡ length old → old ++ more ≡ old
same_front old [] ns is long = append-nil old
same_front old (t ∷ more) ns is long =
    let whole : length (map name_of (old ++ (t ∷ more))) ≡ length ns = ap length is in
    let mapped = length-map (old ++ (t ∷ more)) name_of in
    let parts = length-append old (t ∷ more) in
    absurd (omega arith)

module _ (old new : Past) (alone : OwnsAllThatComes old new) where
  -- the book alone adds events
  added_event : (e : Event) → Adds old e new → new.seen.events ≡ old.seen.events ++ e ∷ []
  added_event e adds =
      let one : alone.added ≡ e ∷ [] = append_cancel_left old.own alone.added (e ∷ []) (sym alone.own ∙ adds.own) in
      alone.seen ∙ ap (λ (l : List Event). old.seen.events ++ l) one

  no_event : GoesOn old new → new.seen.events ≡ old.seen.events
  no_event goes =
      let none : alone.added ≡ [] = append_cancel_left old.own alone.added [] (sym alone.own ∙ goes.own ∙ sym (append-nil old.own)) in
      alone.seen ∙ ap (λ (l : List Event). old.seen.events ++ l) none ∙ append-nil old.seen.events

-- ---- opened

opened_first : (new : Past) (s : ℕ) → IsLegalChronicle new.seen → new.seen.events ≡ Open s ∷ [] → s ≡ 1
opened_first new s legal is =
    (legal.legal.formed 0 (Open s) (ap (λ (es : List Event). slice_get es 0) is)).follows

nothing_named : (ts : List Table) → map name_of ts ≡ [] → ts ≡ []
nothing_named [] is = refl
nothing_named (t ∷ ts) is = cc

opened_so : (old new : Past) (s : ℕ) → IsFresh old → OwnsAllThatComes old new → Adds old (Open s) new → new.state ≡ in_session s →
    IsLegalChronicle new.seen → DefinesMore old [] new
opened_so old new s fresh alone adds state legal =
    let events : new.seen.events ≡ Open s ∷ [] =
    added_event old new alone (Open s) adds ∙ ap (λ (es : List Event). es ++ Open s ∷ []) fresh.events in
    let first : s ≡ 1 = opened_first new s legal events in
    let tables : new.seen.tables ≡ [] = nothing_named new.seen.tables (legal.tables.named ∙ ap names events) in
    record {
      defined = record {
        seen = same_chronicle new.seen (defined_so_far new.seen.level new.seen.initial new.seen.tables) refl refl
            (events ∙ ap (λ (n : ℕ). Open n ∷ []) first ∙ ap (λ (ts : List Table). Open 1 ∷ definitions ts) (sym tables)) refl;
        state = state ∙ ap in_session first;
      };
      level = adds.level;
      initial = adds.initial;
      tables = tables ∙ sym fresh.tables ∙ sym (append-nil old.seen.tables);
    }

-- what follows of a call that succeeds
pub opens : (old new : Past) (r : Result ℕ BookFault) → IsFresh old → OwnsAllThatComes old new → IfOk r (λ s. Adds old (Open s) new) →
    IfOk r (λ s. new.state ≡ in_session s) → IsLegalChronicle new.seen → (s : ℕ) → r ≡ Ok s → DefinesMore old [] new
opens old new (Ok n) fresh alone adds state legal s is = opened_so old new n fresh alone adds state legal
opens old new (Err e) fresh alone adds state legal s is = cc

below_from_test : (n m : ℕ) (x : Limit) (y : Option Limit) (z : Limit) → (if nat_le n m then Some x else y) ≡ Some z → m < n → y ≡ Some z
below_from_test n m x y z some less = grind (arith, nat_tests, some, less)

-- there is room for the first event
open_fits : (initial : List (Cell × Value)) (limit : Limit) → initial_load initial < 1048576 → full_for initial [] (Open 0) ≡ Some limit → ⊥
open_fits initial limit small full =
    let load : load_of initial [] < 1048576 = omega arith in
    let none : None ≡ Some limit = below_from_test 1048576 (load_of initial []) Load None limit full load in
    cc

pub open_has_room : (old new : Past) (limit : Limit) → IsFresh old → OwnsAllThatComes old new → GoesOn old new →
    full_for new.seen.initial new.seen.events (Open 0) ≡ Some limit → ⊥
open_has_room old new limit fresh alone goes full =
    let events : new.seen.events ≡ [] = no_event old new alone goes ∙ fresh.events in
    open_fits old.seen.initial limit fresh.load
    (subst (λ (i : List (Cell × Value)). full_for i [] (Open 0) ≡ Some limit) goes.initial
    (subst (λ (es : List Event). full_for new.seen.initial es (Open 0) ≡ Some limit) events full))

-- ---- a table is defined

names_defined : (past : Past) → HasDefined past → names past.seen.events ≡ map name_of past.seen.tables
names_defined past has = ap (λ (h : Chronicle). names h.events) has.seen ∙ names_of_definitions past.seen.tables

last_same : (xs ys : List Table) (x y : Table) → xs ++ x ∷ [] ≡ ys ++ y ∷ [] → x ≡ y
last_same [] [] x y is = cc
last_same [] (b ∷ ys) x y is = absurd (too_short ys y (ap length is))
  where
    too_short : (ys : List Table) (y : Table) → 1 ≡ length (b ∷ (ys ++ y ∷ [])) → ⊥
    too_short ys y long = let h = length_push ys y in omega arith
last_same (a ∷ xs) [] x y is = absurd (too_long xs x (ap length is))
  where
    too_long : (xs : List Table) (x : Table) → length (a ∷ (xs ++ x ∷ [])) ≡ 1 → ⊥
    too_long xs x long = let h = length_push xs x in omega arith
last_same (a ∷ xs) (b ∷ ys) x y is = last_same xs ys x y (rest_same (xs ++ x ∷ []) (ys ++ y ∷ []) is)
  where
    rest_same : (us vs : List Table) → a ∷ us ≡ b ∷ vs → us ≡ vs
    rest_same us vs e = cc

-- a list that is one longer than another one, of which it has the front, and ends with the table
one_more : (old more before whole : List Table) (t : Table) → whole ≡ old ++ more → whole ≡ before ++ t ∷ [] → length whole ≡ length old + 1 →
    whole ≡ old ++ t ∷ []
one_more old [] before whole t first second long =
    let h : length whole ≡ length old = ap length (first ∙ append-nil old) in absurd (omega arith)
one_more old (u ∷ []) before whole t first second long =
    first ∙ ap (λ (x : Table). old ++ x ∷ []) (last_same old before u t (sym first ∙ second))
one_more old (u ∷ (v ∷ more)) before whole t first second long =
    let h : length whole ≡ length (old ++ (u ∷ (v ∷ more))) = ap length first in
    let parts = length-append old (u ∷ (v ∷ more)) in
    absurd (omega arith)

at_session : (past : Past) → HasDefined past → session_of past.state ≡ 1
at_session past has = ap session_of has.state

defined_so : (old new : Past) (t : Table) (before : List Table) → HasDefined old → OwnsAllThatComes old new → new.seen.tables ≡ before ++ t ∷ [] →
    Adds old (Define (session_of old.state) t.name) new → new.state ≡ old.state → IsLegalChronicle new.seen → DefinesMore old (t ∷ []) new
defined_so old new t before has alone whole adds state legal =
    let events : new.seen.events ≡ Open 1 ∷ definitions (old.seen.tables ++ t ∷ []) =
    added_event old new alone (Define (session_of old.state) t.name) adds
    ∙ ap (λ (h : Chronicle). h.events ++ Define (session_of old.state) t.name ∷ []) has.seen
    ∙ ap (λ (n : ℕ). (Open 1 ∷ definitions old.seen.tables) ++ Define n t.name ∷ []) (at_session old has)
    ∙ ap (λ (es : List Event). Open 1 ∷ es) (sym (definitions_push old.seen.tables t)) in
    let named : map name_of new.seen.tables ≡ map name_of (old.seen.tables ++ t ∷ []) =
    legal.tables.named ∙ ap names events ∙ names_of_definitions (old.seen.tables ++ t ∷ []) in
    let long : length new.seen.tables ≡ length old.seen.tables + 1 =
    sym (length-map new.seen.tables name_of) ∙ ap length named ∙ length-map (old.seen.tables ++ t ∷ []) name_of ∙ length_push old.seen.tables t in
    let tables : new.seen.tables ≡ old.seen.tables ++ t ∷ [] = one_more old.seen.tables adds.more before new.seen.tables t adds.tables whole long in
    record {
      defined = record {
        seen = same_chronicle new.seen (defined_so_far new.seen.level new.seen.initial new.seen.tables) refl refl
            (events ∙ ap (λ (ts : List Table). Open 1 ∷ definitions ts) (sym tables)) refl;
        state = state ∙ has.state;
      };
      level = adds.level;
      initial = adds.initial;
      tables = tables;
    }

-- a name of a list of tables is that of one of them
named_one : (ts : List Table) (name : List ℕ) → All (λ (t : Table). t.name ≢ name) ts → Contains (map name_of ts) name → ⊥
named_one ts name none there =
    let at = at_contains (map name_of ts) name there in
    by_place ts at.0 (λ t member. All-contains (λ (x : Table). x.name ≢ name) ts t none member) at.1
  where
    by_place : (us : List Table) (k : ℕ) → ((t : Table) → Contains us t → t.name ≢ name) → slice_get (map name_of us) k ≡ Some name → ⊥
    by_place [] k apart is = let clash : None ≡ Some name = is in cc
    by_place (u ∷ us) zero apart is = apart u (contains_at (u ∷ us) 0 u refl) cc
    by_place (u ∷ us) (suc k) apart is =
        by_place us k (λ t member. let at = at_contains us t member in apart t (contains_at (u ∷ us) (suc at.0) t at.1)) is

not_taken : (old new : Past) (t : Table) (n : ℕ) → HasDefined old → MayDefine old t → OwnsAllThatComes old new → Contains (names new.seen.events) t.name →
    Adds old (Look (session_of old.state) n) new → ⊥
not_taken old new t n has may alone there adds =
    let same : names new.seen.events ≡ map name_of old.seen.tables =
    ap names (added_event old new alone (Look (session_of old.state) n) adds) ∙ names-push old.seen.events (Look (session_of old.state) n) refl
    ∙ names_defined old has in
    named_one old.seen.tables t.name may.fresh (subst (λ (ns : List (List ℕ)). Contains ns t.name) same there)

defines_so : (old new : Past) (t : Table) (answer : DefineAnswer) → HasDefined old → MayDefine old t → OwnsAllThatComes old new →
    AnswersDefine old t answer new → new.state ≡ old.state → IsLegalChronicle new.seen → DefinesMore old (t ∷ []) new
defines_so old new t (Defined n) has may alone told state legal = defined_so old new t told.0 has alone told.1 told.3 state legal
defines_so old new t (Taken n) has may alone told state legal = absurd (not_taken old new t n has may alone told.1 told.2)

pub defines : (old new : Past) (t : Table) (r : Result DefineAnswer BookFault) (answer : DefineAnswer) → r ≡ Ok answer → HasDefined old → MayDefine old t →
    OwnsAllThatComes old new → IfOk r (λ a. AnswersDefine old t a new) → new.state ≡ old.state → IsLegalChronicle new.seen → DefinesMore old (t ∷ []) new
defines old new t (Ok a) answer is has may alone told state legal = defines_so old new t a has may alone told state legal
defines old new t (Err e) answer is has may alone told state legal = cc

load_defined : (past : Past) → HasDefined past → load_of past.seen.initial past.seen.events ≡ initial_load past.seen.initial + length past.seen.tables + 1
load_defined past has =
    let events : past.seen.events ≡ Open 1 ∷ definitions past.seen.tables = ap (λ (h : Chronicle). h.events) has.seen in
    let weights : weights_of past.seen.events ≡ weights_of (Open 1 ∷ definitions past.seen.tables) = ap weights_of events in
    let more = sum_by-cons weight_of (Open 1) (definitions past.seen.tables) in
    let on = weights_of_definitions past.seen.tables in
    omega arith

count_defined : (past : Past) → HasDefined past → defined past.seen.events ≡ length past.seen.tables
count_defined past has = ap length (names_defined past has) ∙ length-map past.seen.tables name_of

define_fits : (initial : List (Cell × Value)) (events : List Event) (name : List ℕ) (limit : Limit) → defined events < 64 →
    full_for initial events (Define 0 name) ≡ Some limit → 1048576 ≤ load_of initial events
define_fits initial events name limit few full = elim (cases_lt (load_of initial events) 1048576) [
  | inl less ↦
      let next : (if nat_le 64 (defined events) then Some Tables else None) ≡ Some limit =
      below_from_test 1048576 (load_of initial events) Load (if nat_le 64 (defined events) then Some Tables else None) limit full less in
      let none : None ≡ Some limit = below_from_test 64 (defined events) Tables None limit next few in
      absurd (none_some none)
  | inr more ↦ omega arith
]
  where
    none_some : None ≡ Some limit → ⊥
    none_some e = cc

pub define_full : (old new : Past) (t : Table) (limit : Limit) → HasDefined old → MayDefine old t → OwnsAllThatComes old new → GoesOn old new →
    full_for new.seen.initial new.seen.events (Define 0 t.name) ≡ Some limit → 1048576 ≤ initial_load old.seen.initial + length old.seen.tables + 1
define_full old new t limit has may alone goes full =
    let here : full_for old.seen.initial old.seen.events (Define 0 t.name) ≡ Some limit =
    subst (λ (i : List (Cell × Value)). full_for i old.seen.events (Define 0 t.name) ≡ Some limit) goes.initial
    (subst (λ (es : List Event). full_for new.seen.initial es (Define 0 t.name) ≡ Some limit) (no_event old new alone goes) full) in
    let few : defined old.seen.events < 64 = let count = count_defined old has in let h = may.few in omega arith in
    let load = load_defined old has in
    let over = define_fits old.seen.initial old.seen.events t.name limit few here in
    omega arith

-- ---- closed

pub closes : (old new : Past) → HasDefined old → OwnsAllThatComes old new → Adds old (Close (session_of old.state)) new → IsLegalChronicle new.seen →
    new.seen ≡ started old.seen.level old.seen.initial old.seen.tables
closes old new has alone adds legal =
    let added = added_event old new alone (Close (session_of old.state)) adds in
    let events : new.seen.events ≡ Open 1 ∷ (definitions old.seen.tables ++ Close 1 ∷ []) =
    added
    ∙ ap (λ (h : Chronicle). h.events ++ Close (session_of old.state) ∷ []) has.seen
    ∙ ap (λ (n : ℕ). (Open 1 ∷ definitions old.seen.tables) ++ Close n ∷ []) (at_session old has) in
    let named : map name_of new.seen.tables ≡ map name_of old.seen.tables =
    legal.tables.named ∙ ap names added ∙ names-push old.seen.events (Close (session_of old.state)) refl ∙ names_defined old has in
    let tables : new.seen.tables ≡ old.seen.tables =
    adds.tables ∙ same_front old.seen.tables adds.more (map name_of old.seen.tables) (ap (map name_of) (sym adds.tables) ∙ named)
    (length-map old.seen.tables name_of) in
    same_chronicle new.seen (started old.seen.level old.seen.initial old.seen.tables) adds.level adds.initial events tables

-- ---- one step after another

pub more_then : (old mid new : Past) (first : List Table) (t : Table) → DefinesMore old first mid → DefinesMore mid (t ∷ []) new →
    DefinesMore old (first ++ t ∷ []) new
more_then old mid new first t before next = record {
  defined = next.defined;
  level = next.level ∙ before.level;
  initial = next.initial ∙ before.initial;
  tables = next.tables ∙ ap (λ (ts : List Table). ts ++ t ∷ []) before.tables ∙ append_assoc old.seen.tables first (t ∷ []);
}

-- the tables so far, where there was none at first
pub so_far : (old mid : Past) (first : List Table) → IsFresh old → DefinesMore old first mid → mid.seen.tables ≡ first
so_far old mid first fresh more = more.tables ∙ ap (λ (ts : List Table). ts ++ first) fresh.tables

pub may_define : (old mid : Past) (all : List Table) (k : ℕ) (t : Table) → IsFresh old → CanStand all → DefinesMore old (take k all) mid →
    slice_get all k ≡ Some t → MayDefine mid t
may_define old mid all k t fresh can more at =
    let tables : mid.seen.tables ≡ take k all = so_far old mid (take k all) fresh more in
    let within : k < length all = slice_get_within all k t at in
    record {
      sound = All-contains IsSound all t can.sound (contains_at all k t at);
      fresh = subst (λ (ts : List Table). All (λ (x : Table). x.name ≢ t.name) ts) (sym tables) (all_apart can.apart within);
      few = let count : length mid.seen.tables ≡ length (take k all) = ap length tables in
          let short = length-take k all in let few = can.few in let least = min-le_left k (length all) in omega arith;
    }
  where
    all_apart : ((i j : ℕ) (a b : Table) → i < j → slice_get all i ≡ Some a → slice_get all j ≡ Some b → a.name ≢ b.name) → k < length all →
        All (λ (x : Table). x.name ≢ t.name) (take k all)
    all_apart apart within i d small =
        let short = length-take k all in
        let least = min-le_left k (length all) in
        let under : i < k = omega arith in
        apart i k (get_or (take k all) i d) t under (sym (slice_get-take all k i under) ∙ slice_get-get_or (take k all) i d small) at

pub all_defined : (old mid : Past) (all : List Table) (final : Past) → IsFresh old → DefinesMore old all mid →
    final.seen ≡ started mid.seen.level mid.seen.initial mid.seen.tables → final.seen ≡ started old.seen.level old.seen.initial all
all_defined old mid all final fresh more is =
    is ∙ same_chronicle (started mid.seen.level mid.seen.initial mid.seen.tables) (started old.seen.level old.seen.initial all) more.level more.initial
    (ap (λ (ts : List Table). Open 1 ∷ (definitions ts ++ Close 1 ∷ [])) (so_far old mid all fresh more)) (so_far old mid all fresh more)

-- what doesn't fit doesn't fit for all tables
pub full_before : (old mid : Past) (all : List Table) (k : ℕ) → IsFresh old → DefinesMore old (take k all) mid → k < length all →
    1048576 ≤ initial_load mid.seen.initial + length mid.seen.tables + 1 → 1048576 ≤ initial_load old.seen.initial + length all
full_before old mid all k fresh more within full =
    let tables : length mid.seen.tables ≡ length (take k all) = ap length (so_far old mid (take k all) fresh more) in
    let same : initial_load mid.seen.initial ≡ initial_load old.seen.initial = ap initial_load more.initial in
    let short = length-take k all in
    let least = min-le_left k (length all) in
    omega arith
