-- The parts of a SELECT are the first ones of their tables.
use Rattle.std.proofs.Common.{◌≡◌, ◌≢◌, ℕ, ◌==◌, Bool, true, false, cond, not, ◌&&◌, ◌||◌, List, [], ◌∷◌, Option, Some, None, refl, sym, ap, ◌∙◌}
use Rattle.std.specs.Prelude.{if◌then◌else◌, slice_get}
use Rattle.std.specs.List.{list_any, filter, AllByRecursion}
use Rattle.std.proofs.lemmas.Bool.{cond_both, eqb-true}
use Rattle.cell_base.specs.declared.key.Key.{Key}
use Rattle.sql_tree.specs.declared.table.Table.{Table}
use Rattle.statement_course.specs.Reading.{Part, part_of, part_before, parts_from}
use Rattle.statement_laws.specs.Shown.{entry_parts, first_parts}

-- ---- parts that pass a test

kept_twice : (p q : Part → Bool) (parts : List Part) → filter p (filter q parts) ≡ filter (λ x. q x && p x) parts
kept_twice p q [] = refl
kept_twice p q (x ∷ xs) = one p q x xs (q x) (kept_twice p q xs)
  where
    one : (p q : Part → Bool) (x : Part) (xs : List Part) (passes : Bool) → filter p (filter q xs) ≡ filter (λ x. q x && p x) xs
        → filter p (if passes then x ∷ filter q xs else filter q xs)
        ≡ (if passes && p x then x ∷ filter (λ x. q x && p x) xs else filter (λ x. q x && p x) xs)
    one p q x xs true e = ap (λ more. cond (p x) (x ∷ more) more) e
    one p q x xs false e = e

abbrev Agree : (Part → Bool) → (Part → Bool) → Part → Type 0
Agree p q part = p part ≡ q part

kept_same : (p q : Part → Bool) (parts : List Part) → AllByRecursion (Agree p q) parts → filter p parts ≡ filter q parts
kept_same p q [] h = refl
kept_same p q (x ∷ xs) h =
    ap (λ passes. cond passes (x ∷ filter p xs) (filter p xs)) h.0 ∙ ap (λ more. cond (q x) (x ∷ more) more) (kept_same p q xs h.1)

each : (P : Part → Type 0) → ((part : Part) → P part) → (parts : List Part) → AllByRecursion P parts
each P h [] = tt
each P h (x ∷ xs) = (h x, each P h xs)

still : (P Q : Part → Type 0) → ((part : Part) → P part → Q part) → (parts : List Part) → AllByRecursion P parts → AllByRecursion Q parts
still P Q f [] h = tt
still P Q f (x ∷ xs) h = (f x h.0, still P Q f xs h.1)

kept_still : (P : Part → Type 0) (p : Part → Bool) (parts : List Part) → AllByRecursion P parts → AllByRecursion P (filter p parts)
kept_still P p [] h = tt
kept_still P p (x ∷ xs) h =
    let more = kept_still P p xs h.1 in
    cond_both (p x) (x ∷ filter p xs) (filter p xs) (AllByRecursion P) (λ _. (h.0, more)) (λ _. more)

first_still : (P : Part → Type 0) (parts : List Part) → AllByRecursion P parts → AllByRecursion P (first_parts parts)
first_still P [] h = tt
first_still P (x ∷ xs) h = (h.0, kept_still P _ (first_parts xs) (first_still P xs h.1))

all_kept : (parts : List Part) → filter (λ _. true) parts ≡ parts
all_kept [] = refl
all_kept (x ∷ xs) = ap (λ more. x ∷ more) (all_kept xs)

-- ---- a table that isn't there has no part

abbrev IsOther : ℕ → Part → Type 0
IsOther number part = part.table ≢ number

other_before : (tables : List Table) (number n : ℕ) (found : Option Table) (columns : List ℕ) (point : Option Key) (parts : List Part)
    → slice_get tables number ≡ None → slice_get tables n ≡ found → AllByRecursion (IsOther number) parts
    → AllByRecursion (IsOther number) (part_before n found columns point parts)
other_before tables number n None columns point parts none is h = h
other_before tables number n (Some table) columns point parts none is h =
    ((λ e. let bad : ◌≡◌ {A = Option Table} (Some table) None = sym is ∙ (ap (slice_get tables) e ∙ none) in absurd (cc)), h)

others : (tables : List Table) (number : ℕ) (numbers : List ℕ) (columns : List (List ℕ)) (points : List (Option Key)) → slice_get tables number ≡ None
    → AllByRecursion (IsOther number) (entry_parts tables numbers columns points)
others tables number (n ∷ ns) (columns ∷ more) (point ∷ points) none =
    other_before tables number n (slice_get tables n) columns point (entry_parts tables ns more points) none refl (others tables number ns more points none)
others tables number _ _ _ none = tt

-- ---- first ones

abbrev is_new : List ℕ → Part → Bool
is_new before part = not (list_any (λ n. n == part.table) before)

neither : (a b : Bool) → (not a && not b) ≡ not (a || b)
neither true true = refl
neither true false = refl
neither false true = refl
neither false false = refl

-- one that stands before isn't new
old_apart : (number : ℕ) (before : List ℕ) → list_any (λ n. n == number) before ≡ true
    → (part : Part) → (not (number == part.table) && is_new before part) ≡ is_new before part
old_apart number before old part = one number before old part (number == part.table) refl
  where
    one : (number : ℕ) (before : List ℕ) → list_any (λ n. n == number) before ≡ true → (part : Part) (same : Bool) → (number == part.table) ≡ same
        → (not same && is_new before part) ≡ is_new before part
    one number before old part true is = sym (ap not (ap (λ k. list_any (λ n. n == k) before) (sym (eqb-true number part.table is)) ∙ old))
    one number before old part false is = refl

other_new : (number : ℕ) (before : List ℕ) (part : Part) → IsOther number part → is_new (number ∷ before) part ≡ is_new before part
other_new number before part other = one number before part other (number == part.table) refl
  where
    one : (number : ℕ) (before : List ℕ) (part : Part) → IsOther number part → (same : Bool) → (number == part.table) ≡ same
        → not (same || list_any (λ n. n == part.table) before) ≡ is_new before part
    one number before part other true is = absurd (other (sym (eqb-true number part.table is)))
    one number before part other false is = refl

-- the parts of some entries, after the tables that stand before
abbrev AreFirst : List Table → List ℕ → List ℕ → List (List ℕ) → List (Option Key) → Type 0
AreFirst tables before numbers columns points =
    parts_from tables before numbers columns points ≡ filter (is_new before) (first_parts (entry_parts tables numbers columns points))

old_first : (tables : List Table) (before : List ℕ) (number : ℕ) (found : Option Table) (columns : List ℕ) (point : Option Key) (parts entries : List Part)
    → list_any (λ n. n == number) before ≡ true → parts ≡ filter (is_new before) (first_parts entries)
    → parts ≡ filter (is_new before) (first_parts (part_before number found columns point entries))
old_first tables before number None columns point parts entries old e = e
old_first tables before number (Some table) columns point parts entries old e =
    let part = part_of number table columns point in
    let rest = filter (λ (p : Part). not (number == p.table)) (first_parts entries) in
    let same : filter (is_new before) rest ≡ filter (is_new before) (first_parts entries) =
    kept_twice (is_new before) (λ (p : Part). not (number == p.table)) (first_parts entries)
    ∙ kept_same _ (is_new before) (first_parts entries) (each _ (old_apart number before old) (first_parts entries)) in
    e ∙ (sym same ∙ sym (ap (λ passes. cond (not passes) (part ∷ filter (is_new before) rest) (filter (is_new before) rest)) old))

new_first : (tables : List Table) (before : List ℕ) (number : ℕ) (found : Option Table) (columns : List ℕ) (point : Option Key) (parts entries : List Part)
    → list_any (λ n. n == number) before ≡ false → (found ≡ None → AllByRecursion (IsOther number) entries)
    → parts ≡ filter (is_new (number ∷ before)) (first_parts entries)
    → part_before number found columns point parts ≡ filter (is_new before) (first_parts (part_before number found columns point entries))
new_first tables before number None columns point parts entries new missing e =
    e ∙ kept_same (is_new (number ∷ before)) (is_new before) (first_parts entries)
    (still (IsOther number) (Agree (is_new (number ∷ before)) (is_new before)) (other_new number before) (first_parts entries)
    (first_still (IsOther number) entries (missing refl)))
new_first tables before number (Some table) columns point parts entries new missing e =
    let part = part_of number table columns point in
    let rest = filter (λ (p : Part). not (number == p.table)) (first_parts entries) in
    let same : filter (is_new before) rest ≡ filter (is_new (number ∷ before)) (first_parts entries) =
    kept_twice (is_new before) (λ (p : Part). not (number == p.table)) (first_parts entries)
    ∙ kept_same _ (is_new (number ∷ before)) (first_parts entries)
    (each _ (λ p. neither (number == p.table) (list_any (λ n. n == p.table) before)) (first_parts entries)) in
    ap (λ more. part ∷ more) (e ∙ sym same) ∙ sym (ap (λ passes. cond (not passes) (part ∷ filter (is_new before) rest) (filter (is_new before) rest)) new)

are_first : (tables : List Table) (before numbers : List ℕ) (columns : List (List ℕ)) (points : List (Option Key)) → AreFirst tables before numbers columns points
are_first tables before (number ∷ numbers) (columns ∷ more) (point ∷ points) =
    let found = slice_get tables number in
    let entries = entry_parts tables numbers more points in
    cond_both (list_any (λ n. n == number) before) (parts_from tables before numbers more points)
    (part_before number found columns point (parts_from tables (number ∷ before) numbers more points))
    (λ parts. parts ≡ filter (is_new before) (first_parts (part_before number found columns point entries)))
    (λ old. old_first tables before number found columns point (parts_from tables before numbers more points) entries old (are_first tables before numbers more points))
    (λ new. new_first tables before number found columns point (parts_from tables (number ∷ before) numbers more points) entries new
    (λ none. others tables number numbers more points none) (are_first tables (number ∷ before) numbers more points))
are_first tables before _ _ _ = refl

pub parts_first : (tables : List Table) (numbers : List ℕ) (columns : List (List ℕ)) (points : List (Option Key))
    → parts_from tables [] numbers columns points ≡ first_parts (entry_parts tables numbers columns points)
parts_first tables numbers columns points = are_first tables [] numbers columns points ∙ all_kept (first_parts (entry_parts tables numbers columns points))
