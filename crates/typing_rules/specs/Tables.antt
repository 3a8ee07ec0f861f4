-- Tables and columns by name.
use Rattle.std.specs.Prelude.{ℕ, ◌+◌, Bool, ◌==◌, if◌then◌else◌, List, [], ◌∷◌, Ok, Err}
use Rattle.std.specs.List.{list_any}
use Rattle.std.specs.Str.{bytes_eq}
use Rattle.cell_base.specs.declared.sql_state.SqlState.TheVariants.{S42703, S42P01}
use Rattle.sql_tree.specs.declared.table.Column.{Column}
use Rattle.sql_tree.specs.declared.table.Table.{Table}
use Rattle.typing_rules.specs.Outcome.{Outcome}

pub record Numbered : Type 0 where
  pub number : ℕ
  pub table : Table

-- the table of this name, where the tables are numbered from this one on
abbrev pub table_from : List ℕ → ℕ → List Table → Outcome Numbered
table_from name i [] = Err S42P01
table_from name i (t ∷ ts) = if bytes_eq t.name name then Ok (record { number = i; table = t }) else table_from name (i + 1) ts

abbrev pub table_named : List Table → List ℕ → Outcome Numbered
table_named tables name = table_from name 0 tables

pub record Target : Type 0 where
  pub number : ℕ
  pub column : Column

abbrev pub target_from : List ℕ → ℕ → List Column → Outcome Target
target_from name i [] = Err S42703
target_from name i (c ∷ cs) = if bytes_eq c.name name then Ok (record { number = i; column = c }) else target_from name (i + 1) cs

-- the column of this name
abbrev pub target_named : List Column → List ℕ → Outcome Target
target_named columns name = target_from name 0 columns

abbrev pub numbered_from : ℕ → List Column → List Target
numbered_from i [] = []
numbered_from i (c ∷ cs) = record { number = i; column = c } ∷ numbered_from (i + 1) cs

-- all columns, in order of declaration
abbrev pub all_targets : List Column → List Target
all_targets columns = numbered_from 0 columns

-- whether a column of this number is among them
abbrev pub is_among : ℕ → List Target → Bool
is_among n targets = list_any (λ t. t.number == n) targets
