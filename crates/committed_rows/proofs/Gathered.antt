-- The rows that are there, as they are taken out of all cells in order.
use Rattle.std.proofs.Common.{◌≡◌, ℕ, ◌<◌, zero, suc, List, [], ◌∷◌, ◌++◌, Option, Some, None, Bool, true, false, length, get_or, arith, refl, ap, sym, ◌∙◌, subst, inl, inr, ◌↔◌}
use Rattle.std.specs.Prelude.{IsTrue, IsSome}
use Rattle.std.specs.List.{Contains, slice_get}
use Rattle.std.specs.Map.{keys_of}
use Rattle.std.specs.BTreeMap.{BTreeMap, IsOrdered}
use Rattle.std.specs.declared.cmp.Ordering.TheVariants.{Less, Equal, Greater}
use Rattle.std.proofs.lemmas.Bool.{cases_lt, false≢true}
use Rattle.std.proofs.lemmas.List.{append-nil, append_assoc}
use Rattle.std.proofs.lemmas.List.Elements.{Contains-push_cases, Contains-append_left, Contains-push}
use Rattle.std.proofs.lemmas.Map.Keys.{Less-from_sorted}
use Rattle.std.proofs.lemmas.Option.{slice_get_within, same_Some}
use Rattle.cell_base.specs.declared.cell.Cell.{Cell}
use Rattle.cell_base.specs.declared.cell.Cell.TheVariants.{Presence, Field}
use Rattle.cell_base.specs.declared.key.Key.{Key}
use Rattle.cell_base.specs.declared.value.Value.{Value}
use Rattle.cell_base.specs.declared.value.Value.TheVariants.{Flag}
use Rattle.txn_buffer.proofs.Lists.{at_contains, contains_at, slice_get_push_cases}
use Rattle.history_core.specs.Initial.{IsAscending}
use Rattle.history_core.proofs.Places.{slice_get-append_left}
use Rattle.history_core.proofs.Searches.{stands}
use Rattle.committed_rows.specs.Walk.{cell_cmp, HasRow, FitsRows, StandsIn, AreRowsOf}

slice_get-append_here : {X : Type 0} (xs : List X) (x : X) (ys : List X) → slice_get (xs ++ (x ∷ ys)) (length xs) ≡ Some x
slice_get-append_here [] x ys = refl
slice_get-append_here (z ∷ xs) x ys = slice_get-append_here xs x ys

-- ---- the cells of a map ascend

keys_length : (es : List (Cell × Value)) → length (keys_of es) ≡ length es
keys_length [] = refl
keys_length (e ∷ es) = let h = keys_length es in omega arith

key_at : (es : List (Cell × Value)) (k : ℕ) (d : Cell) (e : Cell × Value) → slice_get es k ≡ Some e → get_or (keys_of es) k d ≡ e.0
key_at [] k d e is = let within : k < 0 = slice_get_within [] k e is in absurd (omega arith)
key_at (x ∷ es) zero d e is = let same : x ≡ e = cc in ap (λ (p : Cell × Value). p.0) same
key_at (x ∷ es) (suc k) d e is = key_at es k d e is

pub ascending_entries : (m : BTreeMap Cell Value) → IsOrdered cell_cmp m → IsAscending m.entries
ascending_entries m ordered i j a b less at_i at_j =
    let within : j < length m.entries = slice_get_within m.entries j b at_j in
    let long = keys_length m.entries in
    let is : cell_cmp (get_or (keys_of m.entries) i a.0) (get_or (keys_of m.entries) j a.0) ≡ Less =
    Less-from_sorted cell_cmp (keys_of m.entries) i j a.0 ordered less (omega arith) in
    subst (λ (c : Cell). cell_cmp c b.0 ≡ Less) (key_at m.entries i a.0 a at_i)
    (subst (λ (c : Cell). cell_cmp (get_or (keys_of m.entries) i a.0) c ≡ Less) (key_at m.entries j a.0 b at_j) is)

-- ---- cells that are gathered

-- those of all cells that were looked at, and these are left
pub record IsGathering (all cells rest : List (Cell × Value)) : Type 0 where
  pub done : List (Cell × Value)
  pub split : all ≡ done ++ rest
  pub ascending : IsAscending cells
  pub each : (cell : Cell) (value : Value) → Contains cells (cell, value) ↔ (Contains done (cell, value) × StandsIn all cell value)

pub gather_first : (all : List (Cell × Value)) → IsGathering all [] all
gather_first all = record {
  done = [];
  split = refl;
  ascending = λ i j a b less at_i at_j. let h : j < 0 = slice_get_within [] j b at_j in absurd (omega arith);
  each = λ cell value. (λ there. let h = there.1 in absurd (omega arith), λ there. there.0);
}

pub gather_last : (all cells : List (Cell × Value)) → IsGathering all cells [] → AreRowsOf all cells
gather_last all cells is = record {
  ascending = is.ascending;
  exact = λ cell value.
      let whole : all ≡ is.done = is.split ∙ append-nil is.done in (
        λ there.
            let h = (is.each cell value).0 there in
            (subst (λ (xs : List (Cell × Value)). Contains xs (cell, value)) (sym whole) h.0, h.1),
        λ there. (is.each cell value).1 (subst (λ (xs : List (Cell × Value)). Contains xs (cell, value)) whole there.0, there.1),
      );
}

split_on : (all done rest : List (Cell × Value)) (e : Cell × Value) → all ≡ done ++ (e ∷ rest) → all ≡ (done ++ e ∷ []) ++ rest
split_on all done rest e split = split ∙ sym (append_assoc done (e ∷ []) rest)

-- the next cell isn't of a row that is there
pub gather_skip : (all cells rest : List (Cell × Value)) (cell : Cell) (value : Value) → IsGathering all cells ((cell, value) ∷ rest) →
    (StandsIn all cell value → ⊥) → IsGathering all cells rest
gather_skip all cells rest cell value is none = record {
  done = is.done ++ (cell, value) ∷ [];
  split = split_on all is.done rest (cell, value) is.split;
  ascending = is.ascending;
  each = λ c v. (
    λ there. let h = (is.each c v).0 there in (Contains-append_left is.done ((cell, value) ∷ []) (c, v) h.0, h.1),
    λ there. elim (Contains-push_cases is.done (cell, value) (c, v) there.0) [
      | inl before ↦ (is.each c v).1 (before, there.1)
      | inr last ↦ absurd (none (subst (λ (e : Cell × Value). StandsIn all e.0 e.1) (sym last) there.1))
    ],
  );
}

-- a cell of the first part is below the one that follows
below_next : (all done rest : List (Cell × Value)) (next e : Cell × Value) → IsAscending all → all ≡ done ++ (next ∷ rest) → Contains done e →
    cell_cmp e.0 next.0 ≡ Less
below_next all done rest next e ascending split there =
    let at = at_contains done e there in
    let within : at.0 < length done = slice_get_within done at.0 e at.1 in
    let parts = subst (λ (xs : List (Cell × Value)). IsAscending xs) split ascending in
    parts at.0 (length done) e next within (slice_get-append_left done (next ∷ rest) at.0 within ∙ at.1) (slice_get-append_here done next rest)

-- the next cell is of a row that is there
pub gather_push : (all cells rest : List (Cell × Value)) (cell : Cell) (value : Value) → IsAscending all →
    IsGathering all cells ((cell, value) ∷ rest) → StandsIn all cell value → IsGathering all (cells ++ (cell, value) ∷ []) rest
gather_push all cells rest cell value ascends is stands = record {
  done = is.done ++ (cell, value) ∷ [];
  split = split_on all is.done rest (cell, value) is.split;
  ascending = λ i j a b less at_i at_j. elim (slice_get_push_cases cells (cell, value) j b at_j) [
    | inl before ↦ elim (slice_get_push_cases cells (cell, value) i a at_i) [
      | inl first ↦ is.ascending i j a b less first.1 before.1
      | inr last ↦ let h = before.0 in let k = last.0 in absurd (omega arith)
    ]
    | inr here ↦ elim (slice_get_push_cases cells (cell, value) i a at_i) [
      | inl first ↦
          let old = (is.each a.0 a.1).0 (contains_at cells i a first.1) in
          subst (λ (e : Cell × Value). cell_cmp a.0 e.0 ≡ Less) here.1 (below_next all is.done rest (cell, value) a ascends is.split old.0)
      | inr last ↦ let h = here.0 in let k = last.0 in absurd (omega arith)
    ]
  ];
  each = λ c v. (
    λ there. elim (Contains-push_cases cells (cell, value) (c, v) there) [
      | inl before ↦ let h = (is.each c v).0 before in (Contains-append_left is.done ((cell, value) ∷ []) (c, v) h.0, h.1)
      | inr last ↦ subst (λ (e : Cell × Value). Contains (is.done ++ (cell, value) ∷ []) e × StandsIn all e.0 e.1) last
          (Contains-push is.done (cell, value), stands)
    ],
    λ there. elim (Contains-push_cases is.done (cell, value) (c, v) there.0) [
      | inl before ↦ Contains-append_left cells ((cell, value) ∷ []) (c, v) ((is.each c v).1 (before, there.1))
      | inr last ↦ subst (λ (e : Cell × Value). Contains (cells ++ (cell, value) ∷ []) e) last (Contains-push cells (cell, value))
    ],
  );
}

-- ---- whether the next cell is of a row that is there

-- a presence and a field don't stand at one place
apart_at : (t u c : ℕ) (k l : Key) (v w : Value) (found : Option (Cell × Value)) → found ≡ Some (Presence t k, v) → found ≡ Some (Field u l c, w) → ⊥
apart_at t u c k l v w found first second =
    let same : ◌≡◌ {A = Cell × Value} (Presence t k, v) (Field u l c, w) = same_Some (Presence t k, v) (Field u l c, w) (sym first ∙ second) in
    let cells : Presence t k ≡ Field u l c = ap (λ (e : Cell × Value). e.0) same in
    cc

-- a presence isn't above a field, so it stands before it
before_field : (all done rest : List (Cell × Value)) (table column of_table : ℕ) (key of_key : Key) (value there : Value) → IsAscending all →
    all ≡ done ++ ((Field table key column, value) ∷ rest) → Contains all (Presence of_table of_key, there) → Contains done (Presence of_table of_key, there)
before_field all done rest table column of_table key of_key value there ascending split member =
    let at = at_contains all (Presence of_table of_key, there) member in
    let next : slice_get all (length done) ≡ Some (Field table key column, value) =
    ap (λ (xs : List (Cell × Value)). slice_get xs (length done)) split ∙ slice_get-append_here done (Field table key column, value) rest in
    elim (cases_lt at.0 (length done)) [
      | inl before ↦ contains_at done at.0 (Presence of_table of_key, there)
          (sym (slice_get-append_left done ((Field table key column, value) ∷ rest) at.0 before)
          ∙ ap (λ (xs : List (Cell × Value)). slice_get xs at.0) (sym split) ∙ at.1)
      | inr not_before ↦ elim (cases_lt (length done) at.0) [
        | inl following ↦
            let above : Greater ≡ Less = ascending (length done) at.0 (Field table key column, value) (Presence of_table of_key, there) following next at.1 in cc
        | inr not_after ↦
            let same : at.0 ≡ length done = omega arith in
            absurd (apart_at of_table table column of_key key there value (slice_get all (length done)) (sym (ap (λ (k : ℕ). slice_get all k) same) ∙ at.1) next)
      ]
    ]

pub fits_stands : (all cells rest : List (Cell × Value)) (cell : Cell) (value : Value) → IsAscending all → IsGathering all cells ((cell, value) ∷ rest) →
    FitsRows cells cell value ↔ StandsIn all cell value
fits_stands all cells rest (Presence table key) value ascending is = (λ h. h, λ h. h)
fits_stands all cells rest (Field table key column) value ascending is = (
  λ row.
      let h = (is.each (Presence table key) row.0).0 row.1 in
      subst (λ (xs : List (Cell × Value)). Contains xs (Presence table key, Flag true)) (sym is.split)
      (Contains-append_left is.done ((Field table key column, value) ∷ rest) (Presence table key, Flag true)
      (subst (λ (v : Value). Contains is.done (Presence table key, v)) h.1 h.0)),
  λ there. (
    Flag true,
    (is.each (Presence table key) (Flag true)).1 (before_field all is.done rest table column table key key value (Flag true) ascending is.split there, refl),
  ),
)

-- ---- a search

pub row_found : (cells : List (Cell × Value)) (table : ℕ) (key : Key) (at : ℕ) (m : Cell × Value) → slice_get cells at ≡ Some m →
    cell_cmp m.0 (Presence table key) ≡ Equal → HasRow cells table key
row_found cells table key at m is equal =
    let found = stands cells (Presence table key) at m is equal in
    (found.value, contains_at cells at (Presence table key, found.value) found.is)

-- ---- one turn

pub gather_next : (all cells old rest new seen : List (Cell × Value)) (cell : Cell) (value : Value) (there : Bool) → IsAscending all → IsGathering all cells old →
    old ≡ (cell, value) ∷ rest → seen ≡ cells → (IsTrue there ↔ FitsRows seen cell value) → there ≡ true → new ≡ cells ++ (cell, value) ∷ [] →
    IsGathering all new rest
gather_next all cells old rest new seen cell value there ascending is removal same decides holds pushed =
    let now : IsGathering all cells ((cell, value) ∷ rest) = subst (λ (xs : List (Cell × Value)). IsGathering all cells xs) removal is in
    let fits : FitsRows cells cell value = subst (λ (xs : List (Cell × Value)). FitsRows xs cell value) same (decides.0 holds) in
    subst (λ (xs : List (Cell × Value)). IsGathering all xs rest) (sym pushed)
    (gather_push all cells rest cell value ascending now ((fits_stands all cells rest cell value ascending now).0 fits))

pub gather_over : (all cells old rest seen : List (Cell × Value)) (cell : Cell) (value : Value) (there : Bool) → IsAscending all → IsGathering all cells old →
    old ≡ (cell, value) ∷ rest → seen ≡ cells → (IsTrue there ↔ FitsRows seen cell value) → there ≡ false → IsGathering all cells rest
gather_over all cells old rest seen cell value there ascending is removal same decides fails =
    let now : IsGathering all cells ((cell, value) ∷ rest) = subst (λ (xs : List (Cell × Value)). IsGathering all cells xs) removal is in
    gather_skip all cells rest cell value now
    (λ stands. false≢true (sym fails ∙ decides.1 (subst (λ (xs : List (Cell × Value)). FitsRows xs cell value) (sym same)
    ((fits_stands all cells rest cell value ascending now).1 stands))))

none_left : (xs : List (Cell × Value)) → (0 < length xs → ⊥) → xs ≡ []
none_left [] none = refl
none_left (x ∷ xs) none = absurd (none (omega arith))

no_next : (r : Option (Cell × Value)) → ((e : Cell × Value) → r ≡ Some e → ⊥) → IsSome r → ⊥
no_next (Some e) none there = none e refl
no_next None none there = false≢true there

pub gather_end : (all cells old : List (Cell × Value)) (r : Option (Cell × Value)) → IsGathering all cells old → (IsSome r ↔ (0 < length old)) →
    ((e : Cell × Value) → r ≡ Some e → ⊥) → AreRowsOf all cells
gather_end all cells old r is variant none =
    gather_last all cells (subst (λ (xs : List (Cell × Value)). IsGathering all cells xs) (none_left old (λ more. no_next r none (variant.1 more))) is)
