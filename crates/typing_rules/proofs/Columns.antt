-- A name that is resolved stands for a column that is there, of its type.
use Rattle.std.proofs.Common.{◌≡◌, ℕ, suc, ◌+◌, Bool, true, false, cond, List, [], ◌∷◌, ◌++◌, map, Option, Some, None, Err, refl, sym, ap, subst, arith}
use Rattle.std.specs.Prelude.{slice_get}
use Rattle.std.specs.Option.{option_to_list}
use Rattle.std.specs.Str.{bytes_eq}
use Rattle.cell_base.specs.declared.sql_state.SqlState.TheVariants.{S42P01}
use Rattle.cell_base.specs.declared.sql_type.SqlType.{SqlType}
use Rattle.sql_tree.specs.declared.table.Column.{Column}
use Rattle.typing_rules.specs.Outcome.{Outcome}
use Rattle.typing_rules.specs.Names.{Source, Found, column_from, is_meant, column_in, columns_from, only, is_known, resolved}
use Rattle.typing_rules.specs.WellTyped.{ColumnTypes, column_type}
use Rattle.typing_rules.specs.Sound.{Holds, column_types}

-- the column of this number, after so many others, has the type
record IsAt (kinds : List SqlType) (e c : ℕ) (f : Found) : Type 0 where
  at : ℕ
  entry : f.entry ≡ e
  column : f.column ≡ c + at
  kind : slice_get kinds at ≡ Some f.kind

here : (e c : ℕ) (x : Column) (kinds : List SqlType) (f : Found) → Some (record { entry = e; column = c; kind = x.kind }) ≡ Some f → IsAt (x.kind ∷ kinds) e c f
here e c x kinds f h =
    let same : record { entry = e; column = c; kind = x.kind } ≡ f = cc in
    record { at = 0; entry = sym (ap (λ (f : Found). f.entry) same); column = omega (arith, ap (λ (f : Found). f.column) same); kind = ap (λ (f : Found). Some f.kind) same }

later : (e c : ℕ) (x : Column) (kinds : List SqlType) (f : Found) → IsAt kinds e (c + 1) f → IsAt (x.kind ∷ kinds) e c f
later e c x kinds f i = record { at = suc i.at; entry = i.entry; column = omega (arith, i.column); kind = i.kind }

by_name : (e c : ℕ) (x : Column) (kinds : List SqlType) (f : Found) (test : Bool) (o : Option Found) → (o ≡ Some f → IsAt kinds e (c + 1) f)
    → cond test (Some (record { entry = e; column = c; kind = x.kind })) o ≡ Some f → IsAt (x.kind ∷ kinds) e c f
by_name e c x kinds f true o more h = here e c x kinds f h
by_name e c x kinds f false o more h = later e c x kinds f (more h)

in_columns : (name : List ℕ) (e c : ℕ) (columns : List Column) (f : Found) → column_from name e c columns ≡ Some f → IsAt (map (λ c. c.kind) columns) e c f
in_columns name e c [] f h = absurd (cc)
in_columns name e c (x ∷ xs) f h =
    by_name e c x (map (λ c. c.kind) xs) f (bytes_eq x.name name) (column_from name e (c + 1) xs) (in_columns name e (c + 1) xs f) h

by_entry : (e : ℕ) (s : Source) (f : Found) (test : Bool) (o : Option Found) → (o ≡ Some f → IsAt (map (λ c. c.kind) s.columns) e 0 f) → cond test o None ≡ Some f
    → IsAt (map (λ c. c.kind) s.columns) e 0 f
by_entry e s f true o more h = more h
by_entry e s f false o more h = absurd (cc)

in_entry : (qualifier : Option (List ℕ)) (name : List ℕ) (e : ℕ) (s : Source) (f : Found) → column_in qualifier name e s ≡ Some f → IsAt (map (λ c. c.kind) s.columns) e 0 f
unfolding column_in
in_entry qualifier name e s f h = by_entry e s f (is_meant qualifier s.name) (column_from name e 0 s.columns) (in_columns name e 0 s.columns f) h

-- the column is there, of an entry after so many others, and of its type
pub record IsIn (types : ColumnTypes) (e : ℕ) (f : Found) : Type 0 where
  pub at : ℕ
  pub entry : f.entry ≡ e + at
  pub kind : column_type types at f.column ≡ Some f.kind

first_entry : (kinds : List SqlType) (types : ColumnTypes) (e : ℕ) (f : Found) → IsAt kinds e 0 f → IsIn (kinds ∷ types) e f
first_entry kinds types e f i =
    record { at = 0; entry = omega (arith, i.entry); kind = let column : f.column ≡ i.at = omega (arith, i.column) in rw column i.kind }

later_entry : (kinds : List SqlType) (types : ColumnTypes) (e : ℕ) (f : Found) → IsIn types (e + 1) f → IsIn (kinds ∷ types) e f
later_entry kinds types e f i = record { at = suc i.at; entry = omega (arith, i.entry); kind = i.kind }

by_hit : (kinds : List SqlType) (types : ColumnTypes) (e : ℕ) (o : Option Found) (rest : List Found) (f : Found) (more : List Found)
    → ((g : Found) → o ≡ Some g → IsAt kinds e 0 g) → (rest ≡ f ∷ more → IsIn types (e + 1) f) → option_to_list o ++ rest ≡ f ∷ more → IsIn (kinds ∷ types) e f
by_hit kinds types e None rest f more at in_rest h = later_entry kinds types e f (in_rest h)
by_hit kinds types e (Some g) rest f more at in_rest h =
    let same : g ≡ f = cc in subst (IsIn (kinds ∷ types) e) same (first_entry kinds types e g (at g refl))

in_sources : (qualifier : Option (List ℕ)) (name : List ℕ) (e : ℕ) (ss : List Source) (f : Found) (more : List Found) → columns_from qualifier name e ss ≡ f ∷ more → IsIn (column_types ss) e f
in_sources qualifier name e [] f more h = absurd (cc)
in_sources qualifier name e (s ∷ ss) f more h =
    by_hit (map (λ c. c.kind) s.columns) (column_types ss) e (column_in qualifier name e s) (columns_from qualifier name (e + 1) ss) f more
    (in_entry qualifier name e s) (in_sources qualifier name (e + 1) ss f more) h

only_in : (types : ColumnTypes) (l : List Found) → ((f : Found) (more : List Found) → l ≡ f ∷ more → IsIn types 0 f) → Holds (IsIn types 0) (only l)
only_in types [] h = tt
only_in types (f ∷ []) h = h f [] refl
only_in types (f ∷ g ∷ more) h = tt

known : (types : ColumnTypes) (test : Bool) (o other : Outcome Found) → Holds (IsIn types 0) o → Holds (IsIn types 0) other → Holds (IsIn types 0) (cond test o other)
known types true o other h k = h
known types false o other h k = k

pub resolved_in : (sources : List Source) (qualifier : Option (List ℕ)) (name : List ℕ) → Holds (IsIn (column_types sources) 0) (resolved sources qualifier name)
unfolding resolved
resolved_in sources None name = only_in (column_types sources) (columns_from None name 0 sources) (in_sources None name 0 sources)
resolved_in sources (Some q) name =
    known (column_types sources) (is_known (Some q) sources) (only (columns_from (Some q) name 0 sources)) (Err S42P01)
    (only_in (column_types sources) (columns_from (Some q) name 0 sources) (in_sources (Some q) name 0 sources)) tt
