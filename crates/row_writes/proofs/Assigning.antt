-- Assigned columns one by one.
use Rattle.std.proofs.Common.{◌≡◌, ℕ, zero, suc, ◌+◌, ◌<◌, ◌≤◌, Bool, true, false, cond, List, [], ◌∷◌, ◌++◌, length, drop, get_or, Option, Some, None, refl, sym, ap, ◌∙◌, add-one, arith}
use Rattle.std.specs.Prelude.{slice_get, IfSome, MatchOption}
use Rattle.std.specs.Borrow.{Bor}
use Rattle.std.specs.Option.{option_map}
use Rattle.cell_base.specs.declared.sql_type.SqlType.TheVariants.{Text}
use Rattle.cell_base.specs.declared.value.Value.{Value}
use Rattle.sql_tree.specs.declared.table.Column.{Column}
use Rattle.sql_tree.specs.declared.typed_expr.TypedExpr.{TypedExpr}
use Rattle.row_meaning.specs.Changes.{kind_at, is_assigned, has_missing, fields_from}
use Rattle.row_meaning.specs.Storing.{is_missing}
use Rattle.typing_rules.proofs.Lists.{cut_at}
use Rattle.row_writes.specs.Places.{is_missing_at}

pub kind_there : (cs : List Column) (n : ℕ) (c : Column) → n < length cs → c ≡ get_or cs n c → c.kind ≡ kind_at cs n
kind_there [] n c within is = absurd (omega arith)
kind_there (d ∷ cs) zero c within is = ap (λ (c : Column). c.kind) is
kind_there (d ∷ cs) (suc n) c within is = kind_there cs n c (omega arith) is

pub kind_nowhere : (cs : List Column) (n : ℕ) → length cs ≤ n → Text ≡ kind_at cs n
kind_nowhere [] n past = refl
kind_nowhere (d ∷ cs) zero past = absurd (omega arith)
kind_nowhere (d ∷ cs) (suc n) past = kind_nowhere cs n (omega arith)

some_there : (vs : List Value) (i : ℕ) (v : Value) → i < length vs → v ≡ get_or vs i v → Some v ≡ slice_get vs i
some_there [] i v within is = absurd (omega arith)
some_there (w ∷ vs) zero v within is = ap Some is
some_there (w ∷ vs) (suc i) v within is = some_there vs i v (omega arith) is

none_there : (vs : List Value) (i : ℕ) → length vs ≤ i → None ≡ slice_get vs i
none_there [] i past = refl
none_there (w ∷ vs) zero past = absurd (omega arith)
none_there (w ∷ vs) (suc i) past = none_there vs i (omega arith)

-- what `get` lends
pub lent_is : (vs : List Value) (i : ℕ) (r : Option (Bor Value)) → MatchOption r (length vs ≤ i) (λ b. i < length vs) → IfSome r (λ b. b.now ≡ get_or vs i b.now)
    → option_map (λ b. b.now) r ≡ slice_get vs i
lent_is vs i None past is = none_there vs i past
lent_is vs i (Some b) within is = some_there vs i b.now within is

missing_cut : (i : ℕ) (c : Column) (cs : List Column) (set : List (ℕ × TypedExpr)) (values : List Value) (k : ℕ)
    → has_missing i (c ∷ cs) set (drop k values) ≡ cond (is_missing_at set i c (slice_get values k)) true (has_missing (i + 1) cs set (drop (suc k) values))
missing_cut i c [] set [] zero = refl
missing_cut i c (d ∷ cs) set [] zero = refl
missing_cut i c [] set [] (suc k) = refl
missing_cut i c (d ∷ cs) set [] (suc k) = refl
missing_cut i c cs set (v ∷ vs) zero = chosen (is_assigned set i) (is_missing c v)
  where
    chosen : (a b : Bool) → cond a (cond b true (has_missing (i + 1) cs set vs)) (has_missing (i + 1) cs set vs) ≡ cond (cond a b false) true (has_missing (i + 1) cs set vs)
    chosen true b = refl
    chosen false b = refl
missing_cut i c cs set (v ∷ vs) (suc k) = missing_cut i c cs set vs k

-- one column more
pub missing_more : (cs : List Column) (set : List (ℕ × TypedExpr)) (values : List Value) (i : ℕ) (c : Column) (b : Bool) → i < length cs → c ≡ get_or cs i c
    → is_missing_at set i c (slice_get values i) ≡ b
    → has_missing i (drop i cs) set (drop i values) ≡ cond b true (has_missing (i + 1) (drop (i + 1) cs) set (drop (i + 1) values))
missing_more cs set values i c b within is e =
    ap (λ l. has_missing i l set (drop i values)) (cut_at cs i c within is)
    ∙ missing_cut i c (drop (i + 1) cs) set values i
    ∙ ap (λ t. cond t true (has_missing (i + 1) (drop (i + 1) cs) set (drop (suc i) values))) e
    ∙ ap (λ n. cond b true (has_missing (i + 1) (drop (i + 1) cs) set (drop n values))) (sym (add-one i))

-- one value more
pub field_more : (i : ℕ) (set : List (ℕ × TypedExpr)) (v : Value) (vs : List Value) → fields_from i set (v ∷ []) ++ fields_from (i + 1) set vs ≡ fields_from i set (v ∷ vs)
field_more i set v vs = chosen (is_assigned set i)
  where
    chosen : (b : Bool) → cond b ((i, v) ∷ []) [] ++ fields_from (i + 1) set vs ≡ cond b ((i, v) ∷ fields_from (i + 1) set vs) (fields_from (i + 1) set vs)
    chosen true = refl
    chosen false = refl
