-- Events of few digits, taken by the cells and the values that they are of.
use Rattle.std.proofs.Common.{◌≡◌, ◌∙◌, ℕ, List, Bool, Result, IfOk, IsTrue, ap, sym, subst}
use Rattle.cell_base.specs.declared.cell.Cell.{Cell}
use Rattle.cell_base.specs.declared.memory.Memory.{Memory}
use Rattle.cell_base.specs.declared.value.Value.{Value}
use Rattle.history_core.specs.declared.event.Event.{Event}
use Rattle.history_core.specs.declared.event.Event.TheVariants.{Read, Own, Write}
use Rattle.history_log.specs.declared.compact.CompactAccess.{CompactAccess}
use Rattle.history_log.specs.declared.compact.CompactRead.{CompactRead}
use Rattle.history_log.specs.Compact.{compact_cell, compact_value, compact_read, compact_write, compact_own}
use Rattle.right_logs.specs.declared.pass.Pass.{Pass}
use Rattle.right_logs.specs.Passes.{Goes}

-- the answer for an event is that for the same event
goes_as : (places : List ℕ) (event other : Event) (old new : Pass) (given result : Result Bool Memory) → event ≡ other → result ≡ given
    → IfOk given (λ goes. IsTrue goes → Goes places event old new) → IfOk result (λ goes. IsTrue goes → Goes places other old new)
goes_as places event other old new given result is same taken =
    subst (λ (r : Result Bool Memory). IfOk r (λ goes. IsTrue goes → Goes places other old new)) (sym same)
    (subst (λ (e : Event). IfOk given (λ goes. IsTrue goes → Goes places e old new)) is taken)

pub taken_read : (places : List ℕ) (read : CompactRead) (cell : Cell) (value : Value) (old new : Pass) (given result : Result Bool Memory)
    → cell ≡ compact_cell read.cell → value ≡ compact_value read.value → result ≡ given
    → IfOk given (λ goes. IsTrue goes → Goes places (Read read.session cell read.source read.count read.word value) old new)
    → IfOk result (λ goes. IsTrue goes → Goes places (compact_read read) old new)
taken_read places read cell value old new given result cell_is value_is same =
    goes_as places (Read read.session cell read.source read.count read.word value) (compact_read read) old new given result
    (ap (λ (c : Cell). Read read.session c read.source read.count read.word value) cell_is
    ∙ ap (λ (v : Value). Read read.session (compact_cell read.cell) read.source read.count read.word v) value_is) same

pub taken_write : (places : List ℕ) (write : CompactAccess) (cell : Cell) (value : Value) (old new : Pass) (given result : Result Bool Memory)
    → cell ≡ compact_cell write.cell → value ≡ compact_value write.value → result ≡ given
    → IfOk given (λ goes. IsTrue goes → Goes places (Write write.session cell value) old new) → IfOk result (λ goes. IsTrue goes → Goes places (compact_write write) old new)
taken_write places write cell value old new given result cell_is value_is same =
    goes_as places (Write write.session cell value) (compact_write write) old new given result
    (ap (λ (c : Cell). Write write.session c value) cell_is ∙ ap (λ (v : Value). Write write.session (compact_cell write.cell) v) value_is) same

pub taken_own : (places : List ℕ) (own : CompactAccess) (cell : Cell) (value : Value) (old new : Pass) (given result : Result Bool Memory)
    → cell ≡ compact_cell own.cell → value ≡ compact_value own.value → result ≡ given
    → IfOk given (λ goes. IsTrue goes → Goes places (Own own.session cell value) old new) → IfOk result (λ goes. IsTrue goes → Goes places (compact_own own) old new)
taken_own places own cell value old new given result cell_is value_is same =
    goes_as places (Own own.session cell value) (compact_own own) old new given result
    (ap (λ (c : Cell). Own own.session c value) cell_is ∙ ap (λ (v : Value). Own own.session (compact_cell own.cell) v) value_is) same
