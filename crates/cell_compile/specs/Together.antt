-- Which demands go with which of what follows them.
use Rattle.std.specs.Prelude.{Bool, true, false}
use Rattle.statement_course.specs.declared.demand.Demand.{Demand}
use Rattle.statement_course.specs.declared.demand.Demand.TheVariants.{Scan, Touch, Write, Reply}
use Rattle.cell_compile.specs.declared.next.Next.{Next}
use Rattle.cell_compile.specs.declared.next.Next.TheVariants.{Reads, Inserts, Writes, Nothing}

-- whether the demand is one that what follows it makes; a plan has no other two
abbrev pub go_together : Demand → Next → Bool
go_together (Scan table) (Reads reading purpose) = true
go_together (Touch cell) (Reads reading purpose) = true
go_together (Touch cell) (Inserts insertion) = true
go_together (Write cell value) (Writes writes outcome) = true
go_together (Reply outcome) Nothing = true
go_together _ _ = false
