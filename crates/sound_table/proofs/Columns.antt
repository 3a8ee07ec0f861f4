-- The columns that a CREATE TABLE makes.
use Rattle.std.proofs.Common.{◌≡◌, ℕ, zero, suc, ◌+◌, Bool, true, false, cond, List, [], ◌∷◌, ◌++◌, length, map, Some, Err, All, refl, sym, ap, subst, ◌∙◌, arith}
use Rattle.std.specs.Prelude.{◌==◌, slice_get}
use Rattle.std.specs.List.{list_any}
use Rattle.std.specs.Str.{bytes_eq}
use Rattle.std.proofs.lemmas.Bool.{cond_both, cond-true, eq-eqb, false≢true, or_parts}
use Rattle.std.proofs.lemmas.List.Elements.{All-nil, All-cons, All-head, All-tail}
use Rattle.std.proofs.lemmas.List.Folds.{list_any-append}
use Rattle.std.proofs.lemmas.Slice.Eq.{bytes_eq-Decides}
use Rattle.cell_base.specs.declared.sql_state.SqlState.TheVariants.{S42701, S54000}
use Rattle.sql_tree.specs.declared.statement.ColumnDef.{ColumnDef}
use Rattle.sql_tree.specs.declared.table.Column.{Column}
use Rattle.typing_rules.specs.Building.{has_length, default_of, column_of, columns_from, keyed_from}
use Rattle.typing_rules.specs.Outcome.{Outcome}
use Rattle.typing_rules.specs.Sound.{Holds}
use Rattle.typing_rules.proofs.Numbers.{then_holds}
use Rattle.sound_table.specs.WellFormed.{IsDefault, IsColumn, AreApart}
use Rattle.sound_table.proofs.Defaults.{default_is}

-- ---- names

abbrev has_name : List (List ℕ) → List ℕ → Bool
has_name names name = list_any (λ n. bytes_eq n name) names

-- no column has a name of those before it
abbrev pub AreNew : List (List ℕ) → List Column → Type 0
AreNew before [] = Unit {0}
AreNew before (c ∷ cs) = (has_name before c.name ≡ false) × AreNew (before ++ c.name ∷ []) cs

without_last : (before : List (List ℕ)) (more : List (List ℕ)) (name : List ℕ) → has_name (before ++ more) name ≡ false
    → (has_name before name ≡ false) × (has_name more name ≡ false)
without_last before more name e =
    or_parts (has_name before name) (has_name more name) (sym (list_any-append (λ n. bytes_eq n name) before more) ∙ e)

new_at : (before : List (List ℕ)) (cs : List Column) (j : ℕ) (c : Column) → AreNew before cs → slice_get cs j ≡ Some c → has_name before c.name ≡ false
new_at before [] j c h e = absurd (cc)
new_at before (x ∷ xs) zero c h e = let same : x ≡ c = cc in subst (λ (c : Column). has_name before c.name ≡ false) same h.0
new_at before (x ∷ xs) (suc j) c h e = (without_last before (x.name ∷ []) c.name (new_at (before ++ x.name ∷ []) xs j c h.1 e)).0

-- what stands after a column has another name
other_name : (before : List (List ℕ)) (x : Column) (xs : List Column) (j : ℕ) (c : Column)
    → AreNew before (x ∷ xs) → slice_get xs j ≡ Some c → x.name ≡ c.name → ⊥
other_name before x xs j c h e same =
    let none = (without_last before (x.name ∷ []) c.name (new_at (before ++ x.name ∷ []) xs j c h.1 e)).1 in
    let differs = (or_parts (bytes_eq x.name c.name) false none).0 in
    false≢true (sym differs ∙ (bytes_eq-Decides x.name c.name).1 same)

pub apart : (before : List (List ℕ)) (cs : List Column) → AreNew before cs → AreApart cs
apart before [] h i j a b e f same = absurd (cc)
apart before (x ∷ xs) h zero zero a b e f same = refl
apart before (x ∷ xs) h zero (suc j) a b e f same =
    let here : x ≡ a = cc in absurd (other_name before x xs j b h f (ap (λ (c : Column). c.name) here ∙ same))
apart before (x ∷ xs) h (suc i) zero a b e f same =
    let here : x ≡ b = cc in absurd (other_name before x xs i a h e (ap (λ (c : Column). c.name) here ∙ sym same))
apart before (x ∷ xs) h (suc i) (suc j) a b e f same = ap suc (apart (before ++ x.name ∷ []) xs h.1 i j a b e f same)

-- ---- columns

record IsAdded (before : List (List ℕ)) (d : ColumnDef) (c : Column) : Type 0 where
  named : c.name ≡ d.name
  new : has_name before d.name ≡ false
  column : IsColumn c

column_is : (before : List (List ℕ)) (d : ColumnDef) → Holds (IsAdded before d) (column_of before d)
unfolding column_of
column_is before d =
    let P : Outcome Column → Type 0 = Holds (IsAdded before d) in
    cond_both (has_name before d.name) (Err S42701) _ P (λ _. tt)
    (λ new. cond_both (has_length d.kind) _ (Err S54000) P
    (λ width. then_holds (IsDefault d.kind) (IsAdded before d) (default_of d.kind d.default) _ (default_is d.kind d.default)
    (λ v is. record { named = refl; new = new; column = record { width = width; default = is } }))
    (λ _. tt))

-- the columns of so many definitions, after columns of these names
pub record AreAdded (before : List (List ℕ)) (ds : List ColumnDef) (cs : List Column) : Type 0 where
  pub new : AreNew before cs
  pub long : length cs ≡ length ds
  pub named : map (λ (c : Column). c.name) cs ≡ map (λ (d : ColumnDef). d.name) ds
  pub columns : All IsColumn cs

added : (before : List (List ℕ)) (d : ColumnDef) (ds : List ColumnDef) (c : Column) (cs : List Column)
    → IsAdded before d c → AreAdded (before ++ d.name ∷ []) ds cs → AreAdded before (d ∷ ds) (c ∷ cs)
added before d ds c cs h more = record {
  new = (subst (λ n. has_name before n ≡ false) (sym h.named) h.new, subst (λ n. AreNew (before ++ n ∷ []) cs) (sym h.named) more.new);
  long = ap suc more.long;
  named = let one = h.named in let others = more.named in cc;
  columns = All-cons IsColumn c cs h.column more.columns;
}

pub columns_are : (before : List (List ℕ)) (ds : List ColumnDef) → Holds (AreAdded before ds) (columns_from before ds)
columns_are before [] = record { new = tt; long = refl; named = refl; columns = All-nil IsColumn }
columns_are before (d ∷ ds) =
    then_holds (IsAdded before d) (AreAdded before (d ∷ ds)) (column_of before d) _ (column_is before d)
    (λ c h. then_holds (AreAdded (before ++ d.name ∷ []) ds) (AreAdded before (d ∷ ds)) (columns_from (before ++ d.name ∷ []) ds) _
    (columns_are (before ++ d.name ∷ []) ds)
    (λ cs more. added before d ds c cs h more))

-- ---- the column of the key, which is marked as never null

abbrev pub filled : Column → Column
filled c = record c { not_null = true }

pub keyed_new : (before : List (List ℕ)) (key i : ℕ) (cs : List Column) → AreNew before cs → AreNew before (keyed_from key i cs)
keyed_new before key i [] h = tt
keyed_new before key i (c ∷ cs) h =
    cond_both (i == key) (filled c) c (λ (x : Column). AreNew before (x ∷ keyed_from key (i + 1) cs))
    (λ _. (h.0, keyed_new (before ++ c.name ∷ []) key (i + 1) cs h.1)) (λ _. (h.0, keyed_new (before ++ c.name ∷ []) key (i + 1) cs h.1))

-- what holds of each column, and of each that is marked
pub keyed_all : (P : Column → Type 0) → ((c : Column) → P c → P (filled c)) → (key i : ℕ) (cs : List Column) → All P cs → All P (keyed_from key i cs)
keyed_all P f key i [] h = All-nil P
keyed_all P f key i (c ∷ cs) h =
    let is = All-head P c cs h in
    All-cons P _ (keyed_from key (i + 1) cs) (cond_both (i == key) (filled c) c P (λ _. f c is) (λ _. is)) (keyed_all P f key (i + 1) cs (All-tail P c cs h))

pub keyed_long : (key i : ℕ) (cs : List Column) → length (keyed_from key i cs) ≡ length cs
keyed_long key i [] = refl
keyed_long key i (c ∷ cs) = ap suc (keyed_long key (i + 1) cs)

pub keyed_kinds : (key i : ℕ) (cs : List Column) → map (λ (c : Column). c.kind) (keyed_from key i cs) ≡ map (λ (c : Column). c.kind) cs
keyed_kinds key i [] = refl
keyed_kinds key i (c ∷ cs) =
    let same : (cond (i == key) (filled c) c).kind ≡ c.kind = cond_both (i == key) (filled c) c (λ (x : Column). x.kind ≡ c.kind) (λ _. refl) (λ _. refl) in
    let more = keyed_kinds key (i + 1) cs in
    cc

pub keyed_at : (key i at : ℕ) (cs : List Column) (c : Column) → slice_get cs at ≡ Some c → key ≡ i + at → slice_get (keyed_from key i cs) at ≡ Some (filled c)
keyed_at key i at [] c e k = absurd (cc)
keyed_at key i zero (x ∷ xs) c e k =
    let here : x ≡ c = cc in
    let meant : (i == key) ≡ true = eq-eqb i key (omega (arith, k)) in
    ap Some (cond-true (i == key) (filled x) x meant ∙ ap filled here)
keyed_at key i (suc at) (x ∷ xs) c e k = keyed_at key (i + 1) at xs c e (omega (arith, k))
