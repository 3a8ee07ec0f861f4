-- The calls that a session makes of its book, and what a message wants next.
use Rattle.std.specs.Prelude.{◌≡◌, ℕ, Bool, true, false}
use Rattle.cell_base.specs.declared.cell.Cell.{Cell}
use Rattle.cell_base.specs.declared.level.Level.{Level}
use Rattle.cell_base.specs.declared.value.Value.{Value}
use Rattle.sql_tree.specs.declared.table.Table.{Table}
use Rattle.statement_course.specs.declared.demand.Demand.{Demand}
use Rattle.statement_course.specs.declared.demand.Demand.TheVariants as demands
use Rattle.block_machine.specs.declared.call.Call.{Call as Plain}
use Rattle.block_machine.specs.declared.call.Call.TheVariants as plain
use Rattle.block_machine.specs.declared.want.MessageWant.{MessageWant as CodeWant}
use Rattle.block_machine.specs.declared.want.MessageWant.TheVariants as told

-- a call of the book
pub data Call : Type 0 where
  Open : Call
  Close : Call
  -- how many tables the session knows
  Look : ℕ → Call
  Define : Table → Call
  -- at this level
  Begin : Level → Call
  -- the keys of a table
  Scan : ℕ → Call
  -- the value of a cell: the last own write where the pending transaction wrote it, else a read of the history
  Touch : Cell → Call
  Write : Cell → Value → Call
  Commit : Call
  Rollback : Call
  -- how many events the history has
  Show : Call

-- what a message wants next: a call, its reply sent, or nothing
pub data MessageWant : Type 0 where
  Book : Call → MessageWant
  Send : MessageWant
  Nothing : MessageWant

-- a call of the code, which holds neither a table nor a cell
abbrev pub call_of : Plain → Call
call_of plain.Open = Open
call_of plain.Close = Close
call_of (plain.Look known) = Look known
call_of (plain.Begin level) = Begin level
call_of plain.Commit = Commit
call_of plain.Rollback = Rollback
call_of plain.Show = Show

-- whether a statement that demands this isn't done
abbrev pub asks_cells : Demand → Bool
asks_cells (demands.Scan table) = true
asks_cells (demands.Touch cell) = true
asks_cells (demands.Write cell value) = true
asks_cells (demands.Reply outcome) = false

-- the call that a demand makes; one that is done makes none, and its case doesn't matter
abbrev pub call_for : Demand → Call
call_for (demands.Scan table) = Scan table
call_for (demands.Touch cell) = Touch cell
call_for (demands.Write cell value) = Write cell value
call_for (demands.Reply outcome) = Rollback

-- the code's want is this one; the table of a definition and the cells of a statement stay with the machine
abbrev pub IsWant : CodeWant → MessageWant → Type 0
IsWant told.Define want = (table : Table) × (want ≡ Book (Define table))
IsWant told.Cells want = (demand : Demand) × (asks_cells demand ≡ true) × (want ≡ Book (call_for demand))
IsWant (told.Book c) want = want ≡ Book (call_of c)
IsWant told.Send want = want ≡ Send
IsWant told.Nothing want = want ≡ Nothing
