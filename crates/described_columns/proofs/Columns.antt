-- The columns of well formed tables: their names are plain, and their varchars have limits.
use Rattle.std.proofs.Common.{◌≡◌, true, ℕ, zero, suc, List, [], ◌∷◌, map, Option, Some, All, subst}
use Rattle.std.specs.Prelude.{slice_get}
use Rattle.std.proofs.lemmas.Bool.{leb-true}
use Rattle.std.proofs.lemmas.List.Elements.{All-head, All-tail, All-map}
use Rattle.cell_base.specs.declared.sql_type.SqlType.{SqlType}
use Rattle.cell_base.specs.declared.sql_type.SqlType.TheVariants as type
use Rattle.sql_tree.specs.declared.table.Column.{Column}
use Rattle.sql_tree.specs.declared.table.Table.{Table}
use Rattle.sql_grammar.specs.Limited.{IsPlainName}
use Rattle.typing_rules.specs.Building.{has_length}
use Rattle.typing_rules.specs.Names.{Source, Found, resolved}
use Rattle.typing_rules.specs.Sound.{Holds, column_types}
use Rattle.typing_rules.specs.WellTyped.{ColumnTypes, column_type}
use Rattle.typing_rules.proofs.Columns.{IsIn, resolved_in}
use Rattle.sound_table.specs.WellFormed.{IsWellFormed}
use Rattle.sound_table.proofs.Defaults.{holds_more}
use Rattle.pg_framing.specs.Replies.{FitsModifier}

pub record IsShown (c : Column) : Type 0 where
  pub named : IsPlainName c.name
  pub fits : FitsModifier c.kind

abbrev pub AreShown : Source → Type 0
AreShown source = All IsShown source.columns

type_fits : (k : SqlType) → has_length k ≡ true → FitsModifier k
type_fits (type.Varchar limit) h = leb-true limit 65536 h
type_fits _ h = tt

pub columns_shown : (table : Table) → IsWellFormed table → All IsShown table.columns
columns_shown table h = λ k d within. record { named = h.names k d within; fits = type_fits _ (h.columns k d within).width }

-- ---- the type of a column that a name stands for

type_at : (kinds : List SqlType) (column : ℕ) (k : SqlType) → All FitsModifier kinds → slice_get kinds column ≡ Some k → FitsModifier k
type_at [] column k h is = absurd (cc)
type_at (x ∷ xs) zero k h is = let same : x ≡ k = cc in subst FitsModifier same (All-head FitsModifier x xs h)
type_at (x ∷ xs) (suc column) k h is = type_at xs column k (All-tail FitsModifier x xs h) is

abbrev AllFit : List SqlType → Type 0
AllFit kinds = All FitsModifier kinds

type_of : (types : ColumnTypes) (entry column : ℕ) (k : SqlType) → All AllFit types → column_type types entry column ≡ Some k → FitsModifier k
type_of [] entry column k h is = absurd (cc)
type_of (kinds ∷ types) zero column k h is = type_at kinds column k (All-head AllFit kinds types h) is
type_of (kinds ∷ types) (suc entry) column k h is = type_of types entry column k (All-tail AllFit kinds types h) is

types_fits : (sources : List Source) → All AreShown sources → All AllFit (column_types sources)
types_fits sources h =
    All-map AllFit (λ (s : Source). map (λ (c : Column). c.kind) s.columns) sources
    (λ k d within. All-map FitsModifier (λ (c : Column). c.kind) _ (λ i e inside. (h k d within i e inside).fits))

pub found_fits : (sources : List Source) (qualifier : Option (List ℕ)) (name : List ℕ)
    → All AreShown sources → Holds (λ (f : Found). FitsModifier f.kind) (resolved sources qualifier name)
found_fits sources qualifier name h =
    holds_more (IsIn (column_types sources) 0) (λ (f : Found). FitsModifier f.kind) (resolved sources qualifier name)
    (λ f is. type_of (column_types sources) is.at f.column f.kind (types_fits sources h) is.kind) (resolved_in sources qualifier name)
