-- What may follow one of two such histories may follow the other.
use Rattle.std.proofs.Common.{◌≡◌, ℕ, ◌+◌, ◌<◌, List, [], ◌∷◌, Some, None, Option, length, map, arith, refl, ap, sym, ◌∙◌, subst, inl, inr, nat_le, if◌then◌else◌}
use Rattle.std.specs.List.{Contains}
use Rattle.std.proofs.lemmas.List.Sums.{sum_by-cons}
use Rattle.cell_base.specs.declared.cell.Cell.{Cell}
use Rattle.cell_base.specs.declared.cell.Cell.TheVariants.{Presence}
use Rattle.cell_base.specs.declared.key.Key.{Key}
use Rattle.cell_base.specs.declared.value.Value.{Value}
use Rattle.history_core.specs.declared.event.Event.{Event}
use Rattle.history_core.specs.declared.event.Event.TheVariants.{Open, Close, Define, Look, Begin, Scan, Read, Own, Write, Commit, Rollback, Show}
use Rattle.history_core.specs.declared.fault.Limit.{Limit}
use Rattle.history_core.specs.declared.fault.Limit.TheVariants.{Load, Transactions, Sessions, Tables}
use Rattle.history_core.specs.Events.{opened, defined, names, defined_name, is_open_event, table_of, weight_of, weights_of}
use Rattle.history_core.specs.Initial.{load_of}
use Rattle.history_core.specs.Transactions.{HasPending}
use Rattle.history_core.specs.Relations.{WritesValue}
use Rattle.history_core.specs.Legal.{IsOpen, WroteItself, ListsKeys, Follows, full_count, full_for, MayCome, ReadsNothing}
use Rattle.history_core.proofs.Prefixes.{Contains-from_slice_get}
use Rattle.txn_buffer.proofs.Lists.{at_contains}
use Rattle.level_laws.specs.Shown.{without_choice, AreAlike}
use Rattle.level_laws.proofs.Agreeing.{Agree, without_answer, kept_of, twin, same_event, agree_length, agree_count, agree_begun, pending_agrees, committed_agrees, written_agrees, last_agrees, writes_agree}

-- ---- counts, names and weights

names_bare : (xs : List Event) → names (map without_answer xs) ≡ names xs
names_bare [] = refl
names_bare (x ∷ xs) =
    ap (λ (o : Option (List ℕ)). more o (names (map without_answer xs))) (kept_of defined_name (λ s x w n u v. refl) x)
    ∙ ap (λ (rest : List (List ℕ)). more (defined_name x) rest) (names_bare xs)
  where
    more : Option (List ℕ) → List (List ℕ) → List (List ℕ)
    more None rest = rest
    more (Some name) rest = name ∷ rest

pub names_agree : (xs ys : List Event) → Agree xs ys → names xs ≡ names ys
names_agree xs ys same = sym (names_bare xs) ∙ ap (λ (es : List Event). names es) same ∙ names_bare ys

weight_kept : (e : Event) → weight_of (without_choice e) ≡ weight_of e
weight_kept (Read s x w n u v) = refl
weight_kept (Open s) = refl
weight_kept (Close s) = refl
weight_kept (Define s name) = refl
weight_kept (Look s count) = refl
weight_kept (Begin s level) = refl
weight_kept (Scan s table keys) = refl
weight_kept (Own s x v) = refl
weight_kept (Write s x v) = refl
weight_kept (Commit s) = refl
weight_kept (Rollback s) = refl
weight_kept (Show s number) = refl

weights_kept : (xs : List Event) → weights_of (map without_choice xs) ≡ weights_of xs
weights_kept [] = refl
weights_kept (x ∷ xs) =
    sum_by-cons weight_of (without_choice x) (map without_choice xs)
    ∙ ap (λ (n : ℕ). n + weights_of (map without_choice xs)) (weight_kept x)
    ∙ ap (λ (n : ℕ). weight_of x + n) (weights_kept xs)
    ∙ sym (sum_by-cons weight_of x xs)

pub load_alike : (initial : List (Cell × Value)) (xs ys : List Event) → AreAlike xs ys → load_of initial xs ≡ load_of initial ys
load_alike initial xs ys alike =
    let weights : weights_of xs ≡ weights_of ys = sym (weights_kept xs) ∙ ap (λ (es : List Event). weights_of es) alike ∙ weights_kept ys in
    omega arith

bare_twice : (e : Event) → without_answer (without_choice e) ≡ without_answer e
bare_twice (Read s x w n u v) = refl
bare_twice (Open s) = refl
bare_twice (Close s) = refl
bare_twice (Define s name) = refl
bare_twice (Look s count) = refl
bare_twice (Begin s level) = refl
bare_twice (Scan s table keys) = refl
bare_twice (Own s x v) = refl
bare_twice (Write s x v) = refl
bare_twice (Commit s) = refl
bare_twice (Rollback s) = refl
bare_twice (Show s number) = refl

bare_list : (xs : List Event) → map without_answer (map without_choice xs) ≡ map without_answer xs
bare_list [] = refl
bare_list (x ∷ xs) =
    ap (λ (e : Event). e ∷ map without_answer (map without_choice xs)) (bare_twice x)
    ∙ ap (λ (es : List Event). without_answer x ∷ es) (bare_list xs)

-- what is equal but for counts and words is equal but for what reads were answered
pub alike_agrees : (xs ys : List Event) → AreAlike xs ys → Agree xs ys
alike_agrees xs ys alike = sym (bare_list xs) ∙ ap (λ (es : List Event). map without_answer es) alike ∙ bare_list ys

-- ---- the parts of what may follow

contains_agrees : (xs ys : List Event) → Agree xs ys → (e : Event) → ReadsNothing e → Contains xs e → Contains ys e
contains_agrees xs ys same e plain there =
    let at = at_contains xs e there in
    let other = twin xs ys same at.0 e at.1 in
    Contains-from_slice_get ys at.0 e (other.is ∙ ap (λ (g : Event). Some g) (same_event e other.event plain other.same))

open_agrees : (xs ys : List Event) → Agree xs ys → (s : ℕ) → IsOpen xs s → IsOpen ys s
open_agrees xs ys same s open_one = (
  contains_agrees xs ys same (Open s) tt open_one.0,
  λ closed. open_one.1 (contains_agrees ys xs (sym same) (Close s) tt closed),
)

has_agrees : (xs ys : List Event) → Agree xs ys → (s : ℕ) → HasPending xs s → HasPending ys s
has_agrees xs ys same s (k, pending) = (k, pending_agrees xs ys same k s pending)

defined_agrees : (xs ys : List Event) → Agree xs ys → defined xs ≡ defined ys
defined_agrees xs ys same = ap length (names_agree xs ys same)

opened_agrees : (xs ys : List Event) → Agree xs ys → opened xs ≡ opened ys
opened_agrees xs ys same = agree_count is_open_event (λ s x w n u v. refl) xs ys same

itself_agrees : (xs ys : List Event) → Agree xs ys → (s : ℕ) (x : Cell) → WroteItself xs s x → WroteItself ys s x
itself_agrees xs ys same s x wrote =
    record { number = wrote.number; pending = pending_agrees xs ys same wrote.number s wrote.pending; written = written_agrees xs ys same wrote.number x wrote.written }

value_agrees : (initial : List (Cell × Value)) (xs ys : List Event) → Agree xs ys → (k : ℕ) (x : Cell) (v : Value) → WritesValue initial xs k x v → WritesValue initial ys k x v
value_agrees initial xs ys same k x v (inl first) = inl first
value_agrees initial xs ys same k x v (inr own) = inr (committed_agrees xs ys same k own.0, last_agrees xs ys same k x v own.1)

keys_agree : (initial : List (Cell × Value)) (xs ys : List Event) → Agree xs ys → (s table : ℕ) (keys : List Key) → ListsKeys initial xs s table keys → ListsKeys initial ys s table keys
keys_agree initial xs ys same s table keys lists = record {
  ascending = lists.ascending;
  listed = λ key. (
    λ there. elim ((lists.listed key).0 there) [
      | inl first ↦ inl first
      | inr later ↦ elim later [
        | inl (n, positive, writes) ↦ inr (inl (n, positive, writes_agree xs ys same n (Presence table key) writes))
        | inr own ↦ inr (inr (itself_agrees xs ys same s (Presence table key) own))
      ]
    ],
    λ either. (lists.listed key).1 (elim either [
      | inl first ↦ inl first
      | inr later ↦ elim later [
        | inl (n, positive, writes) ↦ inr (inl (n, positive, writes_agree ys xs (sym same) n (Presence table key) writes))
        | inr own ↦ inr (inr (itself_agrees ys xs (sym same) s (Presence table key) own))
      ]
    ]),
  );
}

pub follows_agrees : (initial : List (Cell × Value)) (xs ys : List Event) → Agree xs ys → (e : Event) → Follows initial xs e → Follows initial ys e
follows_agrees initial xs ys same (Open s) follows = let h = opened_agrees xs ys same in omega arith
follows_agrees initial xs ys same (Close s) follows = (open_agrees xs ys same s follows.0, λ has. follows.1 (has_agrees ys xs (sym same) s has))
follows_agrees initial xs ys same (Define s name) follows = (
  open_agrees xs ys same s follows.0,
  λ there. follows.1 (subst (λ (all : List (List ℕ)). Contains all name) (sym (names_agree xs ys same)) there),
)
follows_agrees initial xs ys same (Look s count) follows = (open_agrees xs ys same s follows.0, follows.1 ∙ defined_agrees xs ys same)
follows_agrees initial xs ys same (Begin s level) follows = (open_agrees xs ys same s follows.0, λ has. follows.1 (has_agrees ys xs (sym same) s has))
follows_agrees initial xs ys same (Scan s table keys) follows = (
  has_agrees xs ys same s follows.0,
  subst (λ (n : ℕ). table < n) (defined_agrees xs ys same) follows.1,
  keys_agree initial xs ys same s table keys follows.2,
)
follows_agrees initial xs ys same (Read s x w n u v) follows = (
  has_agrees xs ys same s follows.0,
  λ wrote. follows.1 (itself_agrees ys xs (sym same) s x wrote),
  subst (λ (m : ℕ). table_of x < m) (defined_agrees xs ys same) follows.2,
  value_agrees initial xs ys same w x v follows.3,
)
follows_agrees initial xs ys same (Own s x v) follows = (follows.0, pending_agrees xs ys same follows.0 s follows.1, last_agrees xs ys same follows.0 x v follows.2)
follows_agrees initial xs ys same (Write s x v) follows = (
  has_agrees xs ys same s follows.0,
  subst (λ (n : ℕ). table_of x < n) (defined_agrees xs ys same) follows.1,
  follows.2,
)
follows_agrees initial xs ys same (Commit s) follows = has_agrees xs ys same s follows
follows_agrees initial xs ys same (Rollback s) follows = has_agrees xs ys same s follows
follows_agrees initial xs ys same (Show s number) follows = (open_agrees xs ys same s follows.0, follows.1 ∙ ap (λ (n : ℕ). n + 1) (agree_length xs ys same))

-- the limits
count_agrees : (xs ys : List Event) → Agree xs ys → (e : Event) → full_count xs e ≡ full_count ys e
count_agrees xs ys same (Open s) = ap (λ (n : ℕ). if nat_le 4096 n then Some Sessions else None) (opened_agrees xs ys same)
count_agrees xs ys same (Begin s level) = ap (λ (n : ℕ). if nat_le 65535 n then Some Transactions else None) (agree_begun xs ys same)
count_agrees xs ys same (Define s name) = ap (λ (n : ℕ). if nat_le 64 n then Some Tables else None) (defined_agrees xs ys same)
count_agrees xs ys same (Close s) = refl
count_agrees xs ys same (Look s count) = refl
count_agrees xs ys same (Scan s table keys) = refl
count_agrees xs ys same (Read s x w n u v) = refl
count_agrees xs ys same (Own s x v) = refl
count_agrees xs ys same (Write s x v) = refl
count_agrees xs ys same (Commit s) = refl
count_agrees xs ys same (Rollback s) = refl
count_agrees xs ys same (Show s number) = refl

fits_alike : (initial : List (Cell × Value)) (xs ys : List Event) → AreAlike xs ys → (e : Event) → full_for initial xs e ≡ full_for initial ys e
fits_alike initial xs ys alike = fits
  where
    by_load : (e : Event) →
        (if nat_le 1048576 (load_of initial xs) then Some Load else full_count xs e) ≡ (if nat_le 1048576 (load_of initial ys) then Some Load else full_count ys e)
    by_load e =
        ap (λ (n : ℕ). if nat_le 1048576 n then Some Load else full_count xs e) (load_alike initial xs ys alike)
        ∙ ap (λ (o : Option Limit). if nat_le 1048576 (load_of initial ys) then Some Load else o) (count_agrees xs ys (alike_agrees xs ys alike) e)

    fits : (e : Event) → full_for initial xs e ≡ full_for initial ys e
    fits (Close s) = refl
    fits (Commit s) = refl
    fits (Rollback s) = refl
    fits (Open s) = by_load (Open s)
    fits (Define s name) = by_load (Define s name)
    fits (Look s count) = by_load (Look s count)
    fits (Begin s level) = by_load (Begin s level)
    fits (Scan s table keys) = by_load (Scan s table keys)
    fits (Read s x w n u v) = by_load (Read s x w n u v)
    fits (Own s x v) = by_load (Own s x v)
    fits (Write s x v) = by_load (Write s x v)
    fits (Show s number) = by_load (Show s number)

pub may_alike : (initial : List (Cell × Value)) (xs ys : List Event) → AreAlike xs ys → (e : Event) → MayCome initial xs e → MayCome initial ys e
may_alike initial xs ys alike e may = record {
  follows = follows_agrees initial xs ys (alike_agrees xs ys alike) e may.follows;
  fits = sym (fits_alike initial xs ys alike e) ∙ may.fits;
}
