-- Tables stay defined over a touch.
use Rattle.std.proofs.Common.{◌≡◌, ◌++◌, ◌<◌, ℕ, List, Result, Ok, Err, ap, arith, inl, inr, length, length-append}
use Rattle.std.specs.Prelude.{OnErr}
use Rattle.cell_base.specs.declared.cell.Cell.{Cell}
use Rattle.cell_base.specs.declared.value.Value.{Value}
use Rattle.sql_tree.specs.declared.table.Table.{Table}
use Rattle.history_core.specs.declared.fault.BookFault.{BookFault}
use Rattle.history_book.specs.Book.{Past, HasTable, GoesOn, AnswersTouch}

has_more : (old new : Past) (more : List Table) (table : ℕ) → new.seen.tables ≡ old.seen.tables ++ more → HasTable old table → HasTable new table
has_more old new more table is has = omega (arith, has, ap length is, length-append old.seen.tables more)

pub touched_tables : {W : Type 0} (gives : W → ℕ → W → Type 0) (old : Past) (v : W) (cell : Cell) (r : Result Value BookFault) (new : Past) (w : W) →
    AnswersTouch gives old v cell r new w → OnErr r (GoesOn old new) → (table : ℕ) → HasTable old table → HasTable new table
touched_tables gives old v cell (Ok value) new w (inl (back, same)) goes table has = has_more old new back.ok.more table back.ok.tables has
touched_tables gives old v cell (Ok value) new w (inr (word, drawn, read)) goes table has =
    has_more old new read.ok.adds.more table read.ok.adds.tables has
touched_tables gives old v cell (Err fault) new w answers goes table has = has_more old new goes.more table goes.tables has
