-- The table that a CREATE TABLE makes, or the code that comes first (PostgreSQL's documentation, "CREATE TABLE").
use Rattle.std.specs.Prelude.{ℕ, ◌+◌, Bool, true, nat_le, ◌==◌, if◌then◌else◌, List, [], ◌∷◌, ◌++◌, map, length, Option, Some, None, Ok, Err}
use Rattle.std.specs.List.{list_any}
use Rattle.std.specs.Str.{bytes_eq}
use Rattle.cell_base.specs.declared.sql_state.SqlState.TheVariants.{S0A000, S42701, S42703, S54000}
use Rattle.cell_base.specs.declared.sql_type.SqlType.{SqlType}
use Rattle.cell_base.specs.declared.sql_type.SqlType.TheVariants.{Varchar}
use Rattle.cell_base.specs.declared.value.Value.{Value}
use Rattle.cell_base.specs.declared.value.Value.TheVariants.{Null}
use Rattle.sql_tree.specs.declared.expr.Expr.{Expr}
use Rattle.sql_tree.specs.declared.statement.ColumnDef.{ColumnDef}
use Rattle.sql_tree.specs.declared.statement.CreateTable.{CreateTable}
use Rattle.sql_tree.specs.declared.table.Column.{Column}
use Rattle.sql_tree.specs.declared.table.Table.{Table}
use Rattle.sql_tree.specs.declared.typed_expr.TypedExpr.{TypedExpr}
use Rattle.typing_rules.specs.Outcome.{Outcome, and_then, all_of}
use Rattle.typing_rules.specs.Kinds.{is_boolean}
use Rattle.typing_rules.specs.Constants.{constant}
use Rattle.typing_rules.specs.Expressions.{flag}

-- ---- columns

-- A length from 1 to 65,536, or none: 0 stands for none, and a length that was written outside stands above.
abbrev pub has_length : SqlType → Bool
has_length (Varchar limit) = nat_le limit 65536
has_length _ = true

-- a default as a value of the column's type; none is null
abbrev pub default_of : SqlType → Option Expr → Outcome Value
default_of kind None = Ok Null
default_of kind (Some e) = constant kind e

-- a column after columns of these names
unfoldable pub column_of : List (List ℕ) → ColumnDef → Outcome Column
column_of before d =
    if list_any (λ name. bytes_eq name d.name) before then Err S42701
    else (if has_length d.kind then and_then (default_of d.kind d.default) (λ v. Ok (record { name = d.name; kind = d.kind; not_null = d.not_null; default = v }))
    else Err S54000)

abbrev pub columns_from : List (List ℕ) → List ColumnDef → Outcome (List Column)
columns_from before [] = Ok []
columns_from before (d ∷ ds) = and_then (column_of before d) (λ c. and_then (columns_from (before ++ d.name ∷ []) ds) (λ cs. Ok (c ∷ cs)))

-- ---- the key

-- the names of the columns that are marked PRIMARY KEY
abbrev pub marked : List ColumnDef → List (List ℕ)
marked [] = []
marked (d ∷ ds) = if d.key then d.name ∷ marked ds else marked ds

-- the number of the column of this name, where the columns are numbered from this one on
abbrev pub key_from : List ℕ → ℕ → List Column → Outcome ℕ
key_from name i [] = Err S42703
key_from name i (c ∷ cs) =
    if bytes_eq c.name name then (if is_boolean c.kind then Err S0A000 else Ok i) else key_from name (i + 1) cs

-- the number of the one key column; none or more than one is 0A000, an unknown name 42703, a boolean key 0A000
unfoldable pub key_of : List Column → List (List ℕ) → Outcome ℕ
key_of columns [] = Err S0A000
key_of columns (name ∷ []) = key_from name 0 columns
key_of columns (name ∷ other ∷ more) = Err S0A000

-- the columns, of which the one of this number is the key and so is never null
abbrev pub keyed_from : ℕ → ℕ → List Column → List Column
keyed_from key i [] = []
keyed_from key i (c ∷ cs) = (if i == key then record c { not_null = true } else c) ∷ keyed_from key (i + 1) cs

abbrev pub keyed : ℕ → List Column → List Column
keyed key columns = keyed_from key 0 columns

-- ---- the table

-- the CHECKs, as conditions over the table's columns
unfoldable pub checks_of : CreateTable → List Column → Outcome (List TypedExpr)
checks_of create columns = all_of (map (flag (record { name = create.name; columns = columns } ∷ [])) create.checks)

unfoldable pub built : CreateTable → Outcome Table
built create =
    if nat_le (length create.columns) 32 then
    and_then (columns_from [] create.columns) (λ columns.
    and_then (key_of columns (marked create.columns ++ create.keys)) (λ key.
    and_then (checks_of create columns) (λ checks.
    Ok (record { name = create.name; columns = keyed key columns; key = key; checks = checks }))))
    else Err S54000
