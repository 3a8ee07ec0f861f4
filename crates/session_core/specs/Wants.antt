-- What a session wants.
use Rattle.std.specs.Prelude.{◌≡◌, true}
use Rattle.statement_course.specs.declared.demand.Demand.{Demand}
use Rattle.sql_tree.specs.declared.table.Table.{Table}
use Rattle.block_machine.specs.Calls.{Call, call_of, call_for, asks_cells}
use Rattle.block_machine.specs.Calls as calls
use Rattle.block_machine.specs.declared.end.End.{End}
use Rattle.session_core.specs.declared.want.Want.{Want as CodeWant}
use Rattle.session_core.specs.declared.want.Want.TheVariants as told

pub data Want : Type 0 where
  Bytes : Want
  -- the next of the messages that are held
  Message : Want
  Book : Call → Want
  Send : Want
  Ended : End → Want

-- what is wanted of a session while a message runs
abbrev pub of_message : calls.MessageWant → Want
of_message (calls.Book c) = Book c
of_message calls.Send = Send
of_message calls.Nothing = Send

-- the code's want is this one; the table of a definition and the cells of a statement stay with the session
abbrev pub IsWant : CodeWant → Want → Type 0
IsWant told.Bytes want = want ≡ Bytes
IsWant told.Message want = want ≡ Message
IsWant told.Define want = (table : Table) × (want ≡ Book (calls.Define table))
IsWant told.Cells want = (demand : Demand) × (asks_cells demand ≡ true) × (want ≡ Book (call_for demand))
IsWant (told.Book c) want = want ≡ Book (call_of c)
IsWant told.Send want = want ≡ Send
IsWant (told.Ended end) want = want ≡ Ended end

-- bytes are wanted, or the end is there
abbrev pub IsResting : Want → Type 0
IsResting Bytes = Unit {0}
IsResting (Ended end) = Unit {0}
IsResting Message = ⊥
IsResting (Book c) = ⊥
IsResting Send = ⊥

abbrev pub IsOver : Want → Type 0
IsOver (Ended end) = Unit {0}
IsOver _ = ⊥
