-- The values that an UPDATE or a DELETE writes are ones that a cell may hold.
use Rattle.std.proofs.Common.{◌≡◌, ℕ, zero, suc, ◌+◌, ◌<◌, ◌==◌, Bool, true, false, inl, inr, List, [], ◌∷◌, map, Option, Some, Ok, Err, refl, sym, subst, ◌∙◌, arith}
use Rattle.std.specs.Prelude.{slice_get, slice_set}
use Rattle.std.specs.List.{list_any, AllByRecursion}
use Rattle.std.proofs.lemmas.Bool.{cond_both, false≢true, or_cases, eqb-true}
use Rattle.cell_base.specs.declared.cell.Cell.TheVariants.{Field}
use Rattle.cell_base.specs.declared.key.Key.{Key}
use Rattle.cell_base.specs.declared.sql_state.SqlState.TheVariants.{S23502}
use Rattle.cell_base.specs.declared.value.Value.{Value}
use Rattle.sql_tree.specs.declared.table.Column.{Column}
use Rattle.sql_tree.specs.declared.table.Table.{Table}
use Rattle.sql_tree.specs.declared.typed.TypedChange.{TypedChange}
use Rattle.sql_tree.specs.declared.typed_expr.TypedExpr.{TypedExpr}
use Rattle.typing_rules.specs.Assignment.{assigned}
use Rattle.typing_rules.specs.Outcome.{and_then}
use Rattle.typing_rules.specs.Sound.{Holds}
use Rattle.typing_rules.proofs.Numbers.{then_holds}
use Rattle.expr_eval.specs.Values.{value_of}
use Rattle.row_meaning.specs.Pictures.{TableRow, with_values}
use Rattle.row_meaning.specs.Storing.{checked}
use Rattle.row_meaning.specs.Changes.{Change, kept_rows, kind_at, assignments, is_assigned, has_missing, checks_on, fields_from, updated, change_of, changes_of}
use Rattle.statement_course.specs.Laws.{MayStand}
use Rattle.statement_course.specs.Writing.{updates_of, updates, deletes}
use Rattle.statement_laws.proofs.ReadingFirst.{IsWritable}
use Rattle.statement_laws.proofs.Inserting.{anything, all_hold, both, flag_stands, assigned_stands, checked_holds}

-- ---- values put into a row

abbrev pub FieldStands : ℕ × Value → Type 0
FieldStands f = MayStand f.1

abbrev pub FieldsStand : List (ℕ × Value) → Type 0
FieldsStand = AllByRecursion FieldStands

-- the value of a column, where the row has one
abbrev StandsAt : ℕ → List Value → Type 0
StandsAt k row = (v : Value) → slice_get row k ≡ Some v → MayStand v

same_stands : (w v : Value) → ◌≡◌ {A = Option Value} (Some w) (Some v) → MayStand w → MayStand v
same_stands w v e h = let same : w ≡ v = cc in subst MayStand same h

set_stands : (row : List Value) (c : ℕ) (w : Value) (k : ℕ) → MayStand w → StandsAt k row → StandsAt k (slice_set row c w)
set_stands [] c w k m h = h
set_stands (x ∷ xs) zero w zero m h = λ v e. same_stands w v e m
set_stands (x ∷ xs) zero w (suc k) m h = h
set_stands (x ∷ xs) (suc c) w zero m h = h
set_stands (x ∷ xs) (suc c) w (suc k) m h = set_stands xs c w k m h

set_here : (row : List Value) (c : ℕ) (w : Value) → MayStand w → StandsAt c (slice_set row c w)
set_here [] c w m = λ v e. absurd (cc)
set_here (x ∷ xs) zero w m = λ v e. same_stands w v e m
set_here (x ∷ xs) (suc c) w m = set_here xs c w m

kept_standing : (row : List Value) (values : List (ℕ × Value)) (k : ℕ) → FieldsStand values → StandsAt k row → StandsAt k (with_values row values)
kept_standing row [] k h s = s
kept_standing row ((c, w) ∷ more) k h s = kept_standing (slice_set row c w) more k h.1 (set_stands row c w k h.0 s)

abbrev has_column : List (ℕ × Value) → ℕ → Bool
has_column values k = list_any (λ (f : ℕ × Value). f.0 == k) values

put_stands : (row : List Value) (values : List (ℕ × Value)) (k : ℕ) → FieldsStand values → has_column values k ≡ true → StandsAt k (with_values row values)
put_stands row [] k h e = absurd (false≢true e)
put_stands row ((c, w) ∷ more) k h e = elim (or_cases (c == k) (has_column more k) e) [
  | inl here ↦ kept_standing (slice_set row c w) more k h.1 (subst (λ (j : ℕ). StandsAt j (slice_set row c w)) (eqb-true c k here) (set_here row c w h.0))
  | inr there ↦ put_stands (slice_set row c w) more k h.1 there
]

-- ---- the assignments of a row

-- values for just the assigned columns
record IsMade (set : List (ℕ × TypedExpr)) (values : List (ℕ × Value)) : Type 0 where
  stand : FieldsStand values
  same : (k : ℕ) → is_assigned set k ≡ has_column values k

record IsOne (a : ℕ × TypedExpr) (f : ℕ × Value) : Type 0 where
  column : f.0 ≡ a.0
  stands : MayStand f.1

one_made : (columns : List Column) (row : List Value) (a : ℕ × TypedExpr)
    → Holds (IsOne a) (and_then (and_then (value_of a.1 (row ∷ [])) (assigned (kind_at columns a.0))) (λ v. Ok (a.0, v)))
one_made columns row a =
    then_holds MayStand (IsOne a) (and_then (value_of a.1 (row ∷ [])) (assigned (kind_at columns a.0))) (λ v. Ok (a.0, v))
    (then_holds (λ (v : Value). Unit {0}) MayStand (value_of a.1 (row ∷ [])) (assigned (kind_at columns a.0)) (anything (value_of a.1 (row ∷ [])))
    (λ v _. assigned_stands (kind_at columns a.0) v))
    (λ v h. record { column = refl; stands = h })

one_more : (set : List (ℕ × TypedExpr)) (values : List (ℕ × Value)) (a : ℕ × TypedExpr) (f : ℕ × Value) → IsOne a f → IsMade set values → IsMade (a ∷ set) (f ∷ values)
one_more set values a f one made = record {
  stand = (one.stands, made.stand);
  same = λ k. rw (one.column, made.same k) refl;
}

made : (columns : List Column) (set : List (ℕ × TypedExpr)) (row : List Value) → Holds (IsMade set) (assignments columns set row)
made columns [] row = record { stand = tt; same = λ k. refl }
made columns (a ∷ set) row =
    then_holds (IsOne a) (IsMade (a ∷ set)) (and_then (and_then (value_of a.1 (row ∷ [])) (assigned (kind_at columns a.0))) (λ v. Ok (a.0, v))) _
    (one_made columns row a)
    (λ f one. then_holds (IsMade set) (IsMade (a ∷ set)) (assignments columns set row) (λ fs. Ok (f ∷ fs)) (made columns set row)
    (λ fs is. one_more set fs a f one is))

-- ---- the change of a row

-- the assigned columns of a row
abbrev AssignedStand : List (ℕ × TypedExpr) → ℕ → List Value → Type 0
AssignedStand set i row = (k : ℕ) (v : Value) → slice_get row k ≡ Some v → is_assigned set (i + k) ≡ true → MayStand v

fields_stand : (i : ℕ) (set : List (ℕ × TypedExpr)) (vs : List Value) → AssignedStand set i vs → FieldsStand (fields_from i set vs)
fields_stand i set [] h = tt
fields_stand i set (v ∷ vs) h =
    let rest : FieldsStand (fields_from (i + 1) set vs) =
    fields_stand (i + 1) set vs
    (λ k w e a. let there : i + 1 + k ≡ i + suc k = omega arith in h (suc k) w e (subst (λ (j : ℕ). is_assigned set j ≡ true) there a)) in
    cond_both (is_assigned set i) ((i, v) ∷ fields_from (i + 1) set vs) (fields_from (i + 1) set vs) FieldsStand
    (λ a. let here : i ≡ i + 0 = omega arith in (h 0 v refl (subst (λ (j : ℕ). is_assigned set j ≡ true) here a), rest)) (λ _. rest)

abbrev pub ChangeStands : Change → Type 0
ChangeStands c = FieldsStand c.fields

new_stands : (set : List (ℕ × TypedExpr)) (values : List (ℕ × Value)) (row : List Value) → IsMade set values → AssignedStand set 0 (with_values row values)
new_stands set values row is k v e a =
    let here : 0 + k ≡ k = omega arith in
    put_stands row values k is.stand (sym (is.same k) ∙ subst (λ (j : ℕ). is_assigned set j ≡ true) here a) v e

updated_stands : (table : Table) (set : List (ℕ × TypedExpr)) (row : TableRow) → Holds ChangeStands (updated table set row)
updated_stands table set row =
    then_holds (IsMade set) ChangeStands (assignments table.columns set row.1) _ (made table.columns set row.1)
    (λ values is.
    let new = with_values row.1 values in
    cond_both (has_missing 0 table.columns set new) (Err S23502) _ (Holds ChangeStands) (λ _. tt)
    (λ _. then_holds (AssignedStand set 0) ChangeStands (checked (checks_on set table.checks) new)
    (λ whole. Ok (record { key = row.0; fields = fields_from 0 set whole }))
    (checked_holds (AssignedStand set 0) (checks_on set table.checks) new (new_stands set values row.1 is))
    (λ whole h. fields_stand 0 set whole h)))

change_stands : (table : Table) (change : TypedChange) (row : TableRow) → Holds ChangeStands (change_of table change row)
change_stands table change row =
    cond_both change.delete (Ok (record { key = row.0; fields = [] })) (updated table change.set row) (Holds ChangeStands)
    (λ _. tt) (λ _. updated_stands table change.set row)

abbrev pub ChangesStand : List Change → Type 0
ChangesStand = AllByRecursion ChangeStands

pub changes_stand : (table : Table) (change : TypedChange) (rows : List TableRow) → Holds ChangesStand (changes_of table change rows)
unfolding changes_of
changes_stand table change rows =
    then_holds (λ (kept : List TableRow). Unit {0}) ChangesStand (kept_rows change.filter rows) _ (anything (kept_rows change.filter rows))
    (λ kept _. all_hold ChangeStands (change_of table change) kept (change_stands table change))

-- ---- what is written

update_writable : (n table : ℕ) (key : Key) (fields : List (ℕ × Value)) → table < n → FieldsStand fields
    → AllByRecursion (IsWritable n) (map (λ (f : ℕ × Value). (Field table key f.0, f.1)) fields)
update_writable n table key [] within h = tt
update_writable n table key (f ∷ fs) within h = (record { within = within; stands = h.0 }, update_writable n table key fs within h.1)

pub updates_writable : (n table : ℕ) (changes : List Change) → table < n → ChangesStand changes → AllByRecursion (IsWritable n) (updates table changes)
updates_writable n table [] within h = tt
updates_writable n table (c ∷ cs) within h =
    both (IsWritable n) (updates_of table c) (updates table cs) (update_writable n table c.key c.fields within h.0) (updates_writable n table cs within h.1)

pub deletes_writable : (n table : ℕ) (changes : List Change) → table < n → AllByRecursion (IsWritable n) (deletes table changes)
deletes_writable n table [] within = tt
deletes_writable n table (c ∷ cs) within = (record { within = within; stands = flag_stands false }, deletes_writable n table cs within)
