-- One column more, that isn't missing.
use Rattle.std.proofs.Common.{◌≡◌, false, ◌∙◌, sym, ap, rules}
use Rattle.std.specs.Prelude.{slice_get}
use Rattle.std.specs.Option.{option_map}
use Rattle.row_writes.specs.Places.{is_missing_at}
use Rattle.row_writes.proofs.Assigning.{lent_is, missing_more}
use Rattle.row_writes.proofs.assigned.has_missing.Goals as goal

pub loop-i-preserved : goal.loop-i-preserved
loop-i-preserved c =
    let found = c.get.ensures.lookup in
    let there : option_map (λ v. v.now) c.get.result ≡ slice_get c.args.values.now c.loop-i.i = lent_is c.args.values.now c.loop-i.i c.get.result (search rules) found.1 in
    sym (missing_more c.args.columns.now c.args.set.now c.args.values.now c.loop-i.i c.index-columns-i.result false c.loop-i-test.true c.index-columns-i.is
    (ap (is_missing_at c.args.set.now c.loop-i.i c.index-columns-i.result) (sym there) ∙ sym c.is_missing_at.ensures ∙ c.if-is_missing_at.false))
    ∙ c.loop-i.invariant
