-- The numbers stay small, and what a history that isn't full has room for.
use Rattle.std.proofs.Common.{◌≡◌, ℕ, ◌+◌, ◌<◌, ◌≤◌, List, [], ◌∷◌, ◌++◌, Option, Some, None, Bool, true, false, cond, length, arith, ap, ◌∙◌, nat_le}
use Rattle.std.specs.Bool.{if◌then◌else◌}
use Rattle.std.proofs.lemmas.List.{length_push}
use Rattle.std.proofs.lemmas.List.Sums.{sum_by_push, sum_by-cons}
use Rattle.std.proofs.lemmas.Bool.Decides.{nat_tests}
use Rattle.cell_base.specs.declared.level.Level.{Level}
use Rattle.cell_base.specs.declared.cell.Cell.{Cell}
use Rattle.cell_base.specs.declared.value.Value.{Value}
use Rattle.history_core.specs.declared.fault.Limit.{Limit}
use Rattle.history_core.specs.declared.fault.Limit.TheVariants.{Load, Transactions, Sessions, Tables}
use Rattle.history_core.specs.declared.event.Event.{Event}
use Rattle.history_core.specs.declared.event.Event.TheVariants.{Open, Close, Define, Look, Begin, Scan, Read, Own, Write, Commit, Rollback, Show}
use Rattle.history_core.specs.Events.{begun, opened, defined, is_begin, is_open_event, weight_of, weights_of}
use Rattle.history_core.specs.Initial.{initial_load, load_of}
use Rattle.history_core.specs.Legal.{full_for, full_count}
use Rattle.graph_base.proofs.Places.{count_by-push}
use Rattle.history_core.specs.Records.{is_any_end}
use Rattle.history_core.specs.Kept.{IsSmall, ended}

pub weight_positive : (e : Event) → 1 ≤ weight_of e
weight_positive (Scan s table keys) = omega arith
weight_positive (Open s) = omega arith
weight_positive (Close s) = omega arith
weight_positive (Define s name) = omega arith
weight_positive (Look s count) = omega arith
weight_positive (Begin s level) = omega arith
weight_positive (Read s cell source n u v) = omega arith
weight_positive (Own s x v) = omega arith
weight_positive (Write s x v) = omega arith
weight_positive (Commit s) = omega arith
weight_positive (Rollback s) = omega arith
weight_positive (Show s number) = omega arith

pub length-le-weights : (events : List Event) → length events ≤ weights_of events
length-le-weights [] = omega arith
length-le-weights (e ∷ es) =
    let more = sum_by-cons weight_of e es in
    let on = length-le-weights es in
    let w = weight_positive e in
    omega arith

below_from_test : (n m : ℕ) (x : Limit) (y : Option Limit) → (if nat_le n m then Some x else y) ≡ None → (m < n) × (y ≡ None)
below_from_test n m x y none = (grind (arith, nat_tests, none), grind (arith, nat_tests, none))

pub fits_load : (initial : List (Cell × Value)) (events : List Event) (e : Event) → is_any_end e ≡ false → full_for initial events e ≡ None → load_of initial events < 1048576
fits_load initial events (Open s) last fits = (below_from_test 1048576 (load_of initial events) Load (full_count events (Open s)) fits).0
fits_load initial events (Close s) last fits = cc
fits_load initial events (Define s name) last fits = (below_from_test 1048576 (load_of initial events) Load (full_count events (Define s name)) fits).0
fits_load initial events (Look s count) last fits = (below_from_test 1048576 (load_of initial events) Load None fits).0
fits_load initial events (Begin s level) last fits = (below_from_test 1048576 (load_of initial events) Load (full_count events (Begin s level)) fits).0
fits_load initial events (Scan s table keys) last fits = (below_from_test 1048576 (load_of initial events) Load None fits).0
fits_load initial events (Read s cell source n u v) last fits = (below_from_test 1048576 (load_of initial events) Load None fits).0
fits_load initial events (Own s x v) last fits = (below_from_test 1048576 (load_of initial events) Load None fits).0
fits_load initial events (Write s x v) last fits = (below_from_test 1048576 (load_of initial events) Load None fits).0
fits_load initial events (Commit s) last fits = cc
fits_load initial events (Rollback s) last fits = cc
fits_load initial events (Show s number) last fits = (below_from_test 1048576 (load_of initial events) Load None fits).0

pub fits_begin : (initial : List (Cell × Value)) (events : List Event) (s : ℕ) (level : Level) → full_for initial events (Begin s level) ≡ None → begun events < 65535
fits_begin initial events s level fits =
    (below_from_test 65535 (begun events) Transactions None (below_from_test 1048576 (load_of initial events) Load (full_count events (Begin s level)) fits).1).0

pub fits_define :
    (initial : List (Cell × Value)) (events : List Event) (s : ℕ) (name : List ℕ) → full_for initial events (Define s name) ≡ None → defined events < 64
fits_define initial events s name fits =
    (below_from_test 64 (defined events) Tables None (below_from_test 1048576 (load_of initial events) Load (full_count events (Define s name)) fits).1).0

pub fits_open : (initial : List (Cell × Value)) (events : List Event) (s : ℕ) → full_for initial events (Open s) ≡ None → opened events < 4096
fits_open initial events s fits =
    (below_from_test 4096 (opened events) Sessions None (below_from_test 1048576 (load_of initial events) Load (full_count events (Open s)) fits).1).0

pub load-push : (initial : List (Cell × Value)) (events : List Event) (e : Event) → load_of initial (events ++ e ∷ []) ≡ load_of initial events + weight_of e
load-push initial events e =
    let more : weights_of (events ++ e ∷ []) ≡ weights_of events + weight_of e = sum_by_push weight_of events e in
    omega arith

-- an event before an end
pub small_more :
    (initial : List (Cell × Value)) (events : List Event) (e : Event) (owed more begins opens : ℕ) → is_any_end e ≡ false → full_for initial events e ≡ None → weight_of e ≤ 4611686018427387904 →
    cond (is_begin e) 1 0 ≡ begins → cond (is_open_event e) 1 0 ≡ opens → begun events + begins ≤ 65535 → opened events + opens ≤ 4096 →
    more ≡ begins + opens → IsSmall initial events owed → IsSmall initial (events ++ e ∷ []) (owed + more)
small_more initial events e owed more begins opens last fits light is_begins is_opens few_begins few_opens is small =
    let load = fits_load initial events e last fits in
    let n = length-le-weights events in
    let long = length_push events e in
    let b = count_by-push is_begin events e in
    let o = count_by-push is_open_event events e in
    let l : ended (events ++ e ∷ []) ≡ ended events + cond false 1 0 =
    count_by-push is_any_end events e ∙ ap (λ (t : Bool). ended events + cond t 1 0) last in
    let w = load-push initial events e in
    let h = small.ends in
    record {
      ends = omega arith;
      begins = omega arith;
      opens = omega arith;
      count = omega arith;
      load = omega arith;
    }

-- an end
pub small_last :
    (initial : List (Cell × Value)) (events : List Event) (e : Event) (owed : ℕ) → is_any_end e ≡ true → is_begin e ≡ false → is_open_event e ≡ false → weight_of e ≡ 1 →
    IsSmall initial events (owed + 1) → IsSmall initial (events ++ e ∷ []) owed
small_last initial events e owed last no_begin no_open light small =
    let long = length_push events e in
    let b : begun (events ++ e ∷ []) ≡ begun events + cond false 1 0 = count_by-push is_begin events e ∙ ap (λ (t : Bool). begun events + cond t 1 0) no_begin in
    let o : opened (events ++ e ∷ []) ≡ opened events + cond false 1 0 = count_by-push is_open_event events e ∙ ap (λ (t : Bool). opened events + cond t 1 0) no_open in
    let l : ended (events ++ e ∷ []) ≡ ended events + cond true 1 0 = count_by-push is_any_end events e ∙ ap (λ (t : Bool). ended events + cond t 1 0) last in
    let w = load-push initial events e in
    let h = small.ends in let h2 = small.begins in let h3 = small.opens in let h4 = small.count in let h5 = small.load in
    record {
      ends = omega arith;
      begins = omega arith;
      opens = omega arith;
      count = omega arith;
      load = omega arith;
    }
