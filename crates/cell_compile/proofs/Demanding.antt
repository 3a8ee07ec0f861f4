-- What follows a demand begins with it.
use Rattle.std.proofs.Common.{◌≡◌, refl}
use Rattle.cell_base.specs.declared.cell.Cell.TheVariants.{Presence, Field}
use Rattle.statement_course.specs.declared.demand.Demand.{Demand}
use Rattle.statement_course.specs.declared.demand.Demand.TheVariants.{Scan, Touch, Write, Reply}
use Rattle.statement_course.specs.declared.demand.Outcome.{Outcome}
use Rattle.statement_course.specs.Course.{done, first_demand}
use Rattle.cell_compile.specs.declared.next.Next.{Next}
use Rattle.cell_compile.specs.declared.next.Next.TheVariants.{Reads, Inserts, Writes, Nothing}
use Rattle.cell_compile.specs.Plans.{next_course}

pub demanded_first : (demand : Demand) (next : Next) → first_demand (next_course demand next) ≡ demand
demanded_first (Scan table) (Reads reading purpose) = refl
demanded_first (Scan table) (Inserts insertion) = refl
demanded_first (Scan table) (Writes writes outcome) = refl
demanded_first (Scan table) Nothing = refl
demanded_first (Touch (Presence table key)) (Reads reading purpose) = refl
demanded_first (Touch (Field table key column)) (Reads reading purpose) = refl
demanded_first (Touch (Presence table key)) (Inserts insertion) = refl
demanded_first (Touch (Field table key column)) (Inserts insertion) = refl
demanded_first (Touch (Presence table key)) (Writes writes outcome) = refl
demanded_first (Touch (Field table key column)) (Writes writes outcome) = refl
demanded_first (Touch (Presence table key)) Nothing = refl
demanded_first (Touch (Field table key column)) Nothing = refl
demanded_first (Write cell value) (Reads reading purpose) = refl
demanded_first (Write cell value) (Inserts insertion) = refl
demanded_first (Write cell value) (Writes writes outcome) = refl
demanded_first (Write cell value) Nothing = refl
demanded_first (Reply outcome) (Reads reading purpose) = refl
demanded_first (Reply outcome) (Inserts insertion) = refl
demanded_first (Reply outcome) (Writes writes o) = refl
demanded_first (Reply outcome) Nothing = refl

pub replied_last : (outcome : Outcome) (next : Next) → next_course (Reply outcome) next ≡ done outcome
replied_last outcome (Reads reading purpose) = refl
replied_last outcome (Inserts insertion) = refl
replied_last outcome (Writes writes o) = refl
replied_last outcome Nothing = refl
