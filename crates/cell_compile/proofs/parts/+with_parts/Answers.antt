-- The part of the first entry stands before those of the others.
use Rattle.std.proofs.Common.{map, sym, ◌∙◌}
use Rattle.std.proofs.lemmas.Result.{IfOk-weaker}
use Rattle.table_reading.specs.Left.{part_of as seen}
use Rattle.cell_compile.proofs.Parting.{entry_added}
use Rattle.cell_compile.proofs.parts.+with_parts.Goals as goal

pub returns-in_ok-after-in-Some-Some-Some : goal.returns-in_ok-after-in-Some-Some-Some
returns-in_ok-after-in-Some-Some-Some t c =
    let e = c.in-Some-Some-Some in
    IfOk-weaker c.with_parts-else-contains.result _ _
    (λ all h. entry_added c.args.tables.now c.args.before.items c.in_ok-after-in-Some-Some-Some.after.items c.args.numbers.now e.numbers.now
    c.args.columns.now e.columns.now c.args.points.now e.points.now e.number.now e.mentioned.now e.point.now
    (map seen c.args.parts) (map seen c.in_ok-more-in-Some-Some-Some.more) (map seen all)
    e.ensures e.ensures' e.ensures'' c.in_ok-after-in-Some-Some-Some.ensures (sym c.contains.ensures.value ∙ c.if-contains.false)
    c.in_ok-more-in-Some-Some-Some.ensures h)
    c.with_parts-else-contains.ensures
