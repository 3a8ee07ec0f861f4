use Rattle.std.proofs.Common.{length, refl, arith}
use Rattle.std.proofs.lemmas.Bool.{false≢true}
use Rattle.std.proofs.lemmas.Option.{slice_get_read, slice_get_within}
use Rattle.history_check.proofs.RowLemmas.{has_value, value_is}
use Rattle.history_check.proofs.rows.has_value_at.Goals as goal

pub returns-then-at-cells : goal.returns-then-at-cells
returns-then-at-cells c = (
  λ h. absurd (false≢true h),
  λ has. let within = slice_get_within c.args.cells.now c.args.place _ has.1 in absurd (omega arith),
)

pub returns : goal.returns
returns c =
    let at = slice_get_read c.args.cells.now (length c.args.cells.now) c.args.place c.index-cells-at.result refl (omega arith) c.index-cells-at.is in (
      λ h. has_value c.args.cells.now c.args.place c.index-cells-at.result c.args.value.now at (c.is_same.ensures.0 h),
      λ has. c.is_same.ensures.1 (value_is c.args.cells.now c.args.place c.index-cells-at.result c.args.value.now at has),
    )
