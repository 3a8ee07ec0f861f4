-- A borrowed value is the value that it borrows.
use Rattle.std.specs.Prelude.{◌≡◌, List, map, Result, Ok, Err}
use Rattle.std.specs.Borrow.{Bor}
use Rattle.cell_base.specs.declared.sql_state.SqlState.{SqlState}
use Rattle.expr_eval.specs.Operators.{Outcome}
use Rattle.cell_base.specs.declared.value.Value.{Value}
use Rattle.cell_base.specs.declared.value.Value.TheVariants.{Null, Flag, Int, Wide, Text}
use Rattle.expr_eval.specs.Values.{Row}
use Rattle.expr_eval.specs.declared.datum.Datum.{Datum}
use Rattle.expr_eval.specs.declared.datum.Datum.TheVariants as lent

abbrev pub owned : Datum → Value
owned lent.Null = Null
owned (lent.Flag flag) = Flag flag
owned (lent.Int n) = Int n
owned (lent.Wide n) = Wide n
owned (lent.Text text) = Text text.now

-- the row that borrowed lists make
abbrev pub seen : List (Bor (List Value)) → Row
seen row = map (λ values. values.now) row

-- a borrowed value or a code, as this outcome says
abbrev pub Lends : Result Datum SqlState → Outcome → Type 0
Lends (Ok datum) outcome = outcome ≡ Ok (owned datum)
Lends (Err code) outcome = outcome ≡ Err code
