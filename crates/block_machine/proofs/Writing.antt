-- The write that a running statement asks for.
use Rattle.std.proofs.Common.{◌≡◌, true, sym, ap, subst}
use Rattle.cell_base.specs.declared.cell.Cell.{Cell}
use Rattle.cell_base.specs.declared.value.Value.{Value}
use Rattle.statement_course.specs.declared.demand.Demand.{Demand}
use Rattle.statement_course.specs.declared.demand.Demand.TheVariants as demands
use Rattle.statement_course.specs.declared.demand.PlanAnswer.TheVariants as plan_answers
use Rattle.statement_course.specs.Course.{Course, scan, touch, write, first_demand, FitsDemand}
use Rattle.statement_course.specs.Course as course
use Rattle.cell_compile.specs.Plans.{rest_of}
use Rattle.block_machine.specs.Calls.{Call, asks_cells, call_for}
use Rattle.block_machine.specs.Calls as calls
use Rattle.block_machine.specs.declared.call.Answer.TheVariants as answers
use Rattle.block_machine.specs.declared.stage.MessageStage.{MessageStage}
use Rattle.block_machine.specs.declared.stage.MessageStage.TheVariants as stages
use Rattle.block_machine.specs.Knowledge.{Knowledge}
use Rattle.block_machine.specs.Stages.{Fits, wants}
use Rattle.block_machine.specs.Writes.{AsksWrite}

-- the answer to it fits
pub write_fits : (c : Course) (cell : Cell) (value : Value) → first_demand c ≡ demands.Write cell value → FitsDemand c plan_answers.Written
write_fits (scan table next) cell value is = absurd (cc is)
write_fits (touch other next) cell value is = absurd (cc is)
write_fits (write other v next) cell value is = tt
write_fits (course.done outcome) cell value is = absurd (cc is)

pub write_call_fits : (d : Demand) (cell : Cell) (value : Value) → d ≡ demands.Write cell value → Fits (call_for d) answers.Written
write_call_fits d cell value is = subst (λ (x : Demand). Fits (call_for x) answers.Written) (sym is) tt

-- the demand of a call that writes
write_demand : (d : Demand) (cell : Cell) (value : Value) → asks_cells d ≡ true → calls.Book (call_for d) ≡ calls.Book (calls.Write cell value) →
    d ≡ demands.Write cell value
write_demand (demands.Scan table) cell value asks is = absurd (cc is)
write_demand (demands.Touch other) cell value asks is = absurd (cc is)
write_demand (demands.Write other v) cell value asks is = cc is
write_demand (demands.Reply outcome) cell value asks is = absurd (cc asks)

-- a write that is wanted is that of a running statement
pub wanted_write : (stage : MessageStage) (known : Knowledge) (cell : Cell) (value : Value) →
    wants stage known ≡ calls.Book (calls.Write cell value) → AsksWrite stage cell value
wanted_write (stages.Running run p) known cell value is = write_demand (first_demand (rest_of run.plan)) cell value run.asks is
wanted_write (stages.Resting block) known cell value is = absurd (cc is)
wanted_write (stages.Skipping state) known cell value is = absurd (cc is)
wanted_write (stages.Over state) known cell value is = absurd (cc is)
wanted_write (stages.Defining table block) known cell value is = absurd (cc is)
wanted_write (stages.Looking statement description block) known cell value is = absurd (cc is)
wanted_write (stages.Refreshing block) known cell value is = absurd (cc is)
wanted_write (stages.Beginning plan description) known cell value is = absurd (cc is)
wanted_write (stages.Starting words) known cell value is = absurd (cc is)
wanted_write (stages.Showing description block) known cell value is = absurd (cc is)
wanted_write (stages.Committing reply) known cell value is = absurd (cc is)
wanted_write (stages.RollingBack reply) known cell value is = absurd (cc is)
wanted_write (stages.Telling reply block) known cell value is = absurd (cc is)
wanted_write (stages.Undoing code p) known cell value is = absurd (cc is)
wanted_write (stages.Failing code state) known cell value is = absurd (cc is)
wanted_write (stages.Finishing ready) known cell value is = absurd (cc is)
wanted_write (stages.Readying state) known cell value is = absurd (cc is)

pub write_wanted : (stage : MessageStage) (known : Knowledge) (cell : Cell) (value : Value) → AsksWrite stage cell value →
    wants stage known ≡ calls.Book (calls.Write cell value)
write_wanted (stages.Running run p) known cell value is = ap (λ (d : Demand). calls.Book (call_for d)) is
write_wanted _ known cell value asks = absurd asks
