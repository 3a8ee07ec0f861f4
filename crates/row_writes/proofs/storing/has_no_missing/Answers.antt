-- Where the columns or the values end, none was missing.
use Rattle.std.proofs.Common.{◌≡◌, length, min, rules}
use Rattle.std.proofs.lemmas.Slice.Zip.{zip_end}
use Rattle.row_meaning.specs.Storing as spec
use Rattle.row_writes.proofs.Ending.{none_missing}
use Rattle.row_writes.proofs.storing.has_no_missing.Goals as goal

pub returns : goal.returns
returns c =
    let many : length c.loop-column.yielded ≡ min (length c.args.columns.now) (length c.args.values.now) =
    zip_end c.args.columns.now c.args.values.now c.loop-column.yielded c.into_iter-column-iterator.result c.loop-column.column-iterator c.next.new.self c.next.result
    (search rules) (search rules) c.loop-column.yielded_by
    c.in-None.is c.next.ensures.steps in
    none_missing (length c.loop-column.yielded) c.args.columns.now c.args.values.now (spec.has_no_missing c.args.columns.now c.args.values.now) many c.loop-column.invariant.0
