-- A write that a running statement asks of its book by itself.
use Rattle.std.specs.Prelude.{◌≡◌, Some, [], ◌∷◌, ◌++◌}
use Rattle.cell_base.specs.declared.cell.Cell.{Cell}
use Rattle.cell_base.specs.declared.value.Value.{Value}
use Rattle.history_core.specs.declared.event.Event.TheVariants.{Write}
use Rattle.history_core.specs.declared.fault.BookFault.TheVariants as faults
use Rattle.history_core.specs.declared.fault.Limit.{Limit}
use Rattle.history_book.specs.Book.{Past, pending, session_of, writes_of, IsInTransaction, HasTable, Adds, GoesOn}
use Rattle.history_core.specs.Events.{table_of}
use Rattle.history_core.specs.Initial.{IsStorable}
use Rattle.history_core.specs.Legal.{full_load}
use Rattle.statement_course.specs.Course.{first_demand}
use Rattle.statement_course.specs.declared.demand.Demand.TheVariants as demands
use Rattle.cell_compile.specs.Plans.{rest_of}
use Rattle.block_machine.specs.declared.call.Answer.{Answer}
use Rattle.block_machine.specs.declared.call.Answer.TheVariants as answers
use Rattle.block_machine.specs.declared.stage.MessageStage.{MessageStage}
use Rattle.block_machine.specs.declared.stage.MessageStage.TheVariants as stages

-- a statement runs that asks for this write
abbrev pub AsksWrite : MessageStage → Cell → Value → Type 0
AsksWrite (stages.Running run p) cell value = first_demand (rest_of run.plan) ≡ demands.Write cell value
AsksWrite _ cell value = ⊥

-- the write may be asked of a book
abbrev pub MayWrite : Cell → Value → Past → Type 0
MayWrite cell value past = IsInTransaction past.state × IsStorable value × HasTable past (table_of cell)

-- The write was asked of a book, and this is the book's answer. Where it was made, its event was added, and it is the last of those that
-- are pending. Where it was refused, no event was made, and where that is for a limit, the history is at this limit.
abbrev pub IsWrite : Past → Cell → Value → Answer → Past → Type 0
IsWrite old cell value answers.Written new = Adds old (Write (session_of old.state) cell value) new ×
    (new.state ≡ pending (session_of old.state) (writes_of old.state ++ (cell, value) ∷ []))
IsWrite old cell value (answers.Refused why) new = GoesOn old new ×
    ((limit : Limit) → why ≡ faults.Full limit → full_load new.seen.initial new.seen.events ≡ Some limit)
IsWrite old cell value _ new = ⊥
