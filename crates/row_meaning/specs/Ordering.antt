-- ORDER BY, OFFSET and LIMIT (PostgreSQL's documentation, "Sorting Rows" and "LIMIT and OFFSET").
use Rattle.std.specs.Prelude.{ℕ, ℤ, pos, negsuc, Bool, true, false, if◌then◌else◌, List, [], ◌∷◌, take, drop, Option, Some, None, unwrap_or}
use Rattle.std.specs.declared.cmp.Ordering.{Ordering}
use Rattle.std.specs.declared.cmp.Ordering.TheVariants.{Less, Equal, Greater}
use Rattle.std.specs.Ordering.{is_lt, nat_cmp, int_cmp, ordering_then}
use Rattle.cell_base.specs.declared.value.Value.{Value}
use Rattle.cell_base.specs.declared.value.Value.TheVariants.{Unset, Flag, Int, Wide, Text, Null}
use Rattle.expr_eval.specs.Operators.{order_of}

-- a row of the result before it is put in order: its values, and those of the terms of ORDER BY
pub record Sorted : Type 0 where
  pub values : List Value
  pub terms : List Value

-- where a type stands among the others, null above all. Only null is compared with values of another type: a term's values
-- are of one type.
abbrev pub rank : Value → ℕ
rank Unset = 0
rank (Flag flag) = 1
rank (Int n) = 2
rank (Wide n) = 3
rank (Text text) = 4
rank Null = 5

-- two values of one type by their order; null above every value
abbrev pub order_ascending : Value → Value → Ordering
order_ascending (Wide a) (Wide b) = int_cmp a b
order_ascending a b = unwrap_or (order_of a b) (nat_cmp (rank a) (rank b))

-- descending is the other way round, so that null stands first
abbrev pub order_directed : Bool → Value → Value → Ordering
order_directed false a b = order_ascending a b
order_directed true a b = order_ascending b a

-- by the first term in which they differ; true stands for DESC. Both have a value for each term.
abbrev pub order_by : List Bool → List Value → List Value → Ordering
order_by [] as' bs = Equal
order_by (d ∷ ds) [] [] = Equal
order_by (d ∷ ds) [] (b ∷ bs) = Less
order_by (d ∷ ds) (a ∷ as') [] = Greater
order_by (d ∷ ds) (a ∷ as') (b ∷ bs) = ordering_then (order_directed d a b) (order_by ds as' bs)

-- whether a row has to stand before another
abbrev pub is_before : List Bool → Sorted → Sorted → Bool
is_before directions row other = is_lt (order_by directions row.terms other.terms)

-- a row among others that are in order: before the first that needn't stand before it
abbrev pub placed : List Bool → Sorted → List Sorted → List Sorted
placed directions row [] = row ∷ []
placed directions row (other ∷ others) =
    if is_before directions other row then other ∷ placed directions row others else row ∷ other ∷ others

-- in order; rows that tie stand as they stood before
abbrev pub ordered : List Bool → List Sorted → List Sorted
ordered directions [] = []
ordered directions (row ∷ rows) = placed directions row (ordered directions rows)

-- a number of rows; below 0 it counts as 0
abbrev pub count_of : ℤ → ℕ
count_of (pos n) = n
count_of (negsuc n) = 0

-- OFFSET drops rows, and LIMIT then takes some of those that are left
abbrev pub cut : {A : Type 0} → ℤ → Option ℤ → List A → List A
cut offset None rows = drop (count_of offset) rows
cut offset (Some limit) rows = take (count_of limit) (drop (count_of offset) rows)
