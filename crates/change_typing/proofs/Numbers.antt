-- The columns that a statement gives values to are columns of the table, each once.
use Rattle.std.proofs.Common.{◌≡◌, ℕ, suc, ◌+◌, ◌<◌, ◌≤◌, ◌==◌, Bool, true, false, ◌||◌, cond, List, [], ◌∷◌, ◌++◌, length, drop, get_or, Ok, Err, refl, ap, sym, ◌∙◌, add-one, drop-cons, arith}
use Rattle.std.specs.Str.{bytes_eq}
use Rattle.std.proofs.lemmas.Bool.{ne_eqb, eqb-false}
use Rattle.std.proofs.lemmas.List.Folds.{list_any-append}
use Rattle.cell_base.specs.declared.sql_state.SqlState.{SqlState}
use Rattle.cell_base.specs.declared.sql_state.SqlState.TheVariants.{S0A000, S42601, S42701}
use Rattle.sql_tree.specs.declared.expr.Expr.{Expr}
use Rattle.sql_tree.specs.declared.table.Column.{Column}
use Rattle.sql_tree.specs.declared.table.Table.{Table}
use Rattle.std.specs.Prelude.{Option}
use Rattle.typing_rules.specs.Outcome.{Outcome, and_then}
use Rattle.typing_rules.specs.Tables.{Target, target_from, target_named, numbered_from, all_targets, is_among}
use Rattle.typing_rules.specs.Insert.{listed_from}
use Rattle.typing_rules.specs.Changes.{assigned_from}
use Rattle.change_typing.specs.Targets.{AreColumns, assigned_target}

pub swapped : (a b : ℕ) → (a == b) ≡ false → (b == a) ≡ false
swapped a b e = ne_eqb b a (λ f. eqb-false a b e (sym f))

pub neither : (a b : Bool) → (a || b) ≡ false → (a ≡ false) × (b ≡ false)
neither true b e = cc
neither false b e = (refl, e)

-- ---- a column that was found

by_name : (same : Bool) (t : Target) (rest : Outcome Target) (i k n : ℕ) → i ≡ n → ((m : Target) → rest ≡ Ok m → m.number < i + 1 + k)
    → (u : Target)
    → cond {A = Outcome Target} same (Ok (record { number = n; column = t.column })) rest ≡ Ok u → u.number < i + (k + 1)
by_name true t rest i k n is later u e =
    let number : n ≡ u.number = cc in
    omega arith
by_name false t rest i k n is later u e = let following : u.number < i + 1 + k = later u e in omega arith

found_within : (name : List ℕ) (i : ℕ) (columns : List Column) (t : Target) → target_from name i columns ≡ Ok t → t.number < i + length columns
found_within name i [] t e = cc
found_within name i (c ∷ cs) t e =
    let within : t.number < i + (length cs + 1) =
    by_name (bytes_eq c.name name) (record { number = i; column = c }) (target_from name (i + 1) cs) i (length cs) i refl
    (λ m h. found_within name (i + 1) cs m h) t e in
    omega arith

named_within : (columns : List Column) (name : List ℕ) (t : Target) → target_named columns name ≡ Ok t → t.number < length columns
named_within columns name t e = let within : t.number < 0 + length columns = found_within name 0 columns t e in omega arith

-- ---- one column more

not_last : (n : ℕ) (bs : List Target) (t : Target) → is_among n bs ≡ false → (t.number == n) ≡ false → is_among n (bs ++ t ∷ []) ≡ false
not_last n bs t e f = list_any-append (λ t. t.number == n) bs (t ∷ []) ∙ rw (e, f) refl

columns_snoc : (count : ℕ) (before : List Target) (t : Target) → AreColumns count before → t.number < count → is_among t.number before ≡ false
    → AreColumns count (before ++ t ∷ [])
columns_snoc count [] t are within apart = (within, (refl, tt))
columns_snoc count (b ∷ bs) t are within apart =
    let two : ((b.number == t.number) ≡ false) × (is_among t.number bs ≡ false) = neither (b.number == t.number) (is_among t.number bs) apart in
    (are.0, (not_last b.number bs t are.1.0 (swapped b.number t.number two.0), columns_snoc count bs t are.1.1 within two.1))

-- ---- a written list

listed_one : (o : Outcome Target) (among : Target → Bool) (f : Target → Outcome (List Target)) (after : List Target) (P : Type 0)
    → ((t : Target) → o ≡ Ok t → among t ≡ false → f t ≡ Ok after → P) → and_then o (λ t. cond (among t) (Err S42701) (f t)) ≡ Ok after → P
listed_one (Err code) among f after P go e = cc
listed_one (Ok t) among f after P go e = chosen (among t) refl e
  where
    chosen : (b : Bool) → among t ≡ b → cond {A = Outcome (List Target)} b (Err S42701) (f t) ≡ Ok after → P
    chosen true is e = cc
    chosen false is e = go t refl is e

listed_are : (columns : List Column) (before : List Target) (names : List (List ℕ)) (after : List Target) → AreColumns (length columns) before
    → listed_from columns before names ≡ Ok after
    → AreColumns (length columns) after
listed_are columns before [] after are e = let same : before ≡ after = cc in rw (← same) are
listed_are columns before (name ∷ names) after are e =
    listed_one (target_named columns name) (λ t. is_among t.number before) (λ t. listed_from columns (before ++ t ∷ []) names) after
    (AreColumns (length columns) after)
    (λ t h k l.
    listed_are columns (before ++ t ∷ []) names after (columns_snoc (length columns) before t are (named_within columns name t h) k) l) e

pub listed_columns : (columns : List Column) (names : List (List ℕ)) (listed : List Target) → listed_from columns [] names ≡ Ok listed
    → AreColumns (length columns) listed
listed_columns columns names listed e = listed_are columns [] names listed tt e

-- ---- all columns

after_all : (n i : ℕ) (columns : List Column) → n < i → is_among n (numbered_from i columns) ≡ false
after_all n i [] h = refl
after_all n i (c ∷ cs) h = rw (ne_eqb i n (λ e. omega arith)) (after_all n (i + 1) cs (omega arith))

all_are : (count i : ℕ) (columns : List Column) → i + length columns ≤ count → AreColumns count (numbered_from i columns)
all_are count i [] h = tt
all_are count i (c ∷ cs) h = (omega arith, (after_all i (i + 1) cs (omega arith), all_are count (i + 1) cs (omega arith)))

pub all_columns : (columns : List Column) (all : List Target) → all ≡ all_targets columns → AreColumns (length columns) all
all_columns columns all is = rw is (all_are (length columns) 0 columns (omega arith))

-- ---- assigned columns

assigned_choice : (t : Table) (c : Target) (a b : Bool) (f : Target → Outcome (List Target))
    → cond (a) (Err S42601) (cond b (Err S0A000) (f c)) ≡ and_then (cond {A = Outcome Target} a (Err S42601) (cond b (Err S0A000) (Ok c))) f
assigned_choice t c true b f = refl
assigned_choice t c false true f = refl
assigned_choice t c false false f = refl

assigned_by : (t : Table) (before : List Target) (o : Outcome Target) (f : Target → Outcome (List Target))
    → and_then o (λ c. cond (is_among c.number before) (Err S42601) (cond (c.number == t.key) (Err S0A000) (f c)))
    ≡ and_then (and_then o (λ c. cond {A = Outcome Target} (is_among c.number before) (Err S42601) (cond (c.number == t.key) (Err S0A000) (Ok c)))) f
assigned_by t before (Err code) f = refl
assigned_by t before (Ok c) f = assigned_choice t c (is_among c.number before) (c.number == t.key) f

assigned_step : (t : Table) (before : List Target) (a : List ℕ × Option Expr) (more : List (List ℕ × Option Expr))
    → assigned_from t before (a ∷ more) ≡ and_then (assigned_target t before a.0) (λ c. assigned_from t (before ++ c ∷ []) more)
assigned_step t before a more = assigned_by t before (target_named t.columns a.0) (λ c. assigned_from t (before ++ c ∷ []) more)

pub assigned_fault : (t : Table) (before : List Target) (all : List (List ℕ × Option Expr)) (i : ℕ) (a : List ℕ × Option Expr) (code : SqlState)
    (o : Outcome (List Target))
    → i < length all → a ≡ get_or all i a → assigned_target t before a.0 ≡ Err code → assigned_from t before (drop i all) ≡ o → o ≡ Err code
assigned_fault t before all i a code o within is fault so_far =
    let cut : drop i all ≡ a ∷ drop (i + 1) all = rw add-one (drop-cons all i a within ∙ ap (λ z. z ∷ drop (suc i) all) (sym is)) in
    sym so_far ∙ ap (assigned_from t before) cut ∙ assigned_step t before a (drop (i + 1) all)
    ∙ ap (λ o. and_then o (λ c. assigned_from t (before ++ c ∷ []) (drop (i + 1) all))) fault

assigned_one : (o : Outcome Target) (a b : Target → Bool) (f : Target → Outcome (List Target)) (after : List Target) (P : Type 0)
    → ((c : Target) → o ≡ Ok c → a c ≡ false → f c ≡ Ok after → P) → and_then o (λ c. cond (a c) (Err S42601) (cond (b c) (Err S0A000) (f c)))
    ≡ Ok after → P
assigned_one (Err code) a b f after P go e = cc
assigned_one (Ok c) a b f after P go e = chosen (a c) (b c) refl e
  where
    chosen : (p q : Bool) → a c ≡ p → cond {A = Outcome (List Target)} p (Err S42601) (cond q (Err S0A000) (f c)) ≡ Ok after → P
    chosen true q is e = cc
    chosen false true is e = cc
    chosen false false is e = go c refl is e

assigned_from_are : (t : Table) (before : List Target) (set : List (List ℕ × Option Expr)) (after : List Target)
    → AreColumns (length t.columns) before → assigned_from t before set ≡ Ok after
    → AreColumns (length t.columns) after
assigned_from_are t before [] after are e = let same : before ≡ after = cc in rw (← same) are
assigned_from_are t before (x ∷ more) after are e =
    assigned_one (target_named t.columns x.0) (λ c. is_among c.number before) (λ c. c.number == t.key)
    (λ c. assigned_from t (before ++ c ∷ []) more) after (AreColumns (length t.columns) after)
    (λ c h k l.
    assigned_from_are t (before ++ c ∷ []) more after (columns_snoc (length t.columns) before c are (named_within t.columns x.0 c h) k) l) e

pub assigned_are : (t : Table) (set : List (List ℕ × Option Expr)) (after : List Target) → assigned_from t [] set ≡ Ok after
    → AreColumns (length t.columns) after
assigned_are t set after e = assigned_from_are t [] set after tt e
