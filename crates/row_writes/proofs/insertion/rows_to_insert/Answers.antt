-- A key stands twice where the sorted rows have twins.
use Rattle.std.proofs.Common.{length, map, Ok, sym, ap, ◌∙◌}
use Rattle.typing_rules.specs.Outcome.{all_of}
use Rattle.row_meaning.specs.Insertion as spec
use Rattle.row_meaning.specs.Insertion.{rows_to_insert}
use Rattle.row_writes.specs.Twins as twins
use Rattle.row_writes.proofs.InOrder.{twins_are, refused, accepted}
use Rattle.row_writes.proofs.Narrow.{all_narrow, by_keys_narrow}
use Rattle.row_writes.proofs.insertion.rows_to_insert.Goals as goal

pub returns-then-has_twins-clause-exact : goal.returns-then-has_twins-clause-exact
unfolding rows_to_insert
returns-then-has_twins-clause-exact c =
    refused (all_of (map (spec.keyed_row c.args.table.now) c.args.rows.now)) c.in_ok-made.made c.in_ok-made.ensures
    (sym (twins_are c.in_ok-made.made c.in_ok-sorted.sorted c.in_ok-sorted.ensures) ∙ sym (c.has_twins.ensures ∙ ap twins.has_twins c.as_slice.ensures) ∙ c.if-has_twins.true)

pub returns-clause-exact : goal.returns-clause-exact
unfolding rows_to_insert
returns-clause-exact c =
    accepted (all_of (map (spec.keyed_row c.args.table.now) c.args.rows.now)) c.in_ok-made.made c.in_ok-made.ensures
    (sym (twins_are c.in_ok-made.made c.in_ok-sorted.sorted c.in_ok-sorted.ensures) ∙ sym (c.has_twins.ensures ∙ ap twins.has_twins c.as_slice.ensures) ∙ c.if-has_twins.false)
    ∙ ap Ok (sym c.in_ok-sorted.ensures)

pub returns-clause-within : goal.returns-clause-within
returns-clause-within c =
    by_keys_narrow (length c.args.table.now.columns) c.in_ok-made.made c.in_ok-sorted.sorted c.in_ok-sorted.ensures
    (all_narrow c.args.table.now c.args.rows.now c.in_ok-made.made c.in_ok-made.ensures)
