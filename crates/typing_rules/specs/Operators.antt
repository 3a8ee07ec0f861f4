-- Which aggregate a function's name stands for (PostgreSQL's documentation, "Aggregate Functions").
-- The types that operators and aggregates take stand in `Kinds` and `WellTyped`.
use Rattle.std.specs.Prelude.{ℕ, List, if◌then◌else◌, codes, Option, Some, None}
use Rattle.std.specs.Str.{bytes_eq}
use Rattle.sql_tree.specs.declared.op.Aggregate.{Aggregate}
use Rattle.sql_tree.specs.declared.op.Aggregate.TheVariants.{Count, Sum, Min, Max}

-- the aggregate of a name
abbrev pub aggregate_named : List ℕ → Option Aggregate
aggregate_named name =
    if bytes_eq name (codes "count") then Some Count
    else (if bytes_eq name (codes "sum") then Some Sum
    else (if bytes_eq name (codes "min") then Some Min
    else (if bytes_eq name (codes "max") then Some Max else None)))
