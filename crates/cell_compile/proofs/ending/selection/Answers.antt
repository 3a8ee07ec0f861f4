-- The rows, or the code, of the picture.
use Rattle.std.proofs.Common.{List, Result, refl, sym, subst}
use Rattle.cell_base.specs.declared.sql_fault.SqlFault.{SqlFault}
use Rattle.cell_base.specs.declared.value.Value.{Value}
use Rattle.row_meaning.specs.Selection.{selected}
use Rattle.typing_rules.specs.Gives.{Gives}
use Rattle.cell_compile.proofs.ending.selection.Goals as goal

pub returns : goal.returns
returns c =
    let select = c.args.select in
    let picture = c.args.picture in
    let rows = rw c.as_slice.ensures at c.rows_of-rows.ensures in
    c.rows_or_code.ensures select (selected select picture) refl
    (subst (λ (r : Result (List (List Value)) SqlFault). Gives (selected select picture) r) (sym c.without.ensures) rows)
