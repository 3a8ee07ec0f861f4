-- Which column a name stands for.
use Rattle.std.specs.Prelude.{ℕ, ◌+◌, Bool, true, false, ◌||◌, if◌then◌else◌, List, [], ◌∷◌, ◌++◌, Option, Some, None, Ok, Err}
use Rattle.std.specs.Option.{option_to_list}
use Rattle.std.specs.Str.{bytes_eq}
use Rattle.cell_base.specs.declared.sql_state.SqlState.TheVariants.{S42702, S42703, S42P01}
use Rattle.cell_base.specs.declared.sql_type.SqlType.{SqlType}
use Rattle.sql_tree.specs.declared.table.Column.{Column}
use Rattle.typing_rules.specs.Outcome.{Outcome}

-- an entry of FROM: the name by which it is seen, and the columns of its table
pub record Source : Type 0 where
  pub name : List ℕ
  pub columns : List Column

-- a column of an entry, both from 0, and its type
pub record Found : Type 0 where
  pub entry : ℕ
  pub column : ℕ
  pub kind : SqlType

-- the first column of this name, where the entry has this number and its columns are numbered from this one on
abbrev pub column_from : List ℕ → ℕ → ℕ → List Column → Option Found
column_from name e c [] = None
column_from name e c (x ∷ xs) =
    if bytes_eq x.name name then Some (record { entry = e; column = c; kind = x.kind }) else column_from name e (c + 1) xs

-- whether the qualifier, where one is written, is this name
abbrev pub is_meant : Option (List ℕ) → List ℕ → Bool
is_meant None name = true
is_meant (Some qualifier) name = bytes_eq qualifier name

unfoldable pub column_in : Option (List ℕ) → List ℕ → ℕ → Source → Option Found
column_in qualifier name e source = if is_meant qualifier source.name then column_from name e 0 source.columns else None

-- all columns that the name may stand for, where the entries are numbered from this one on
abbrev pub columns_from : Option (List ℕ) → List ℕ → ℕ → List Source → List Found
columns_from qualifier name e [] = []
columns_from qualifier name e (s ∷ ss) = option_to_list (column_in qualifier name e s) ++ columns_from qualifier name (e + 1) ss

abbrev pub only : List Found → Outcome Found
only [] = Err S42703
only (p ∷ []) = Ok p
only (p ∷ q ∷ more) = Err S42702

abbrev pub is_known : Option (List ℕ) → List Source → Bool
is_known qualifier [] = false
is_known qualifier (s ∷ ss) = is_meant qualifier s.name || is_known qualifier ss

-- the one column that the name stands for; 42P01 where no entry has the qualifier, 42703 where no entry has the column, 42702 where two have it
unfoldable pub resolved : List Source → Option (List ℕ) → List ℕ → Outcome Found
resolved sources None name = only (columns_from None name 0 sources)
resolved sources (Some qualifier) name =
    if is_known (Some qualifier) sources then only (columns_from (Some qualifier) name 0 sources) else Err S42P01
