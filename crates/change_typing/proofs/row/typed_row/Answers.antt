-- The filled slots are the row.
use Rattle.std.proofs.Common.{length}
use Rattle.typing_rules.specs.Insert.{cells}
use Rattle.change_typing.specs.Targets.{targets}
use Rattle.change_typing.proofs.Filling.{slots_length, row_done}
use Rattle.change_typing.proofs.row.typed_row.Goals as goal

pub filled-requires : goal.filled-requires
filled-requires c =
    slots_length (cells (targets c.args.given.now) c.args.row.now) (length c.args.columns.now) (targets c.args.given.now) c.in_ok-slots.slots
    c.in_ok-slots.ensures

pub returns : goal.returns
returns c =
    row_done (cells (targets c.args.given.now) c.args.row.now) c.args.columns.now (targets c.args.given.now) c.in_ok-slots.slots
    c.in_ok-filled.field-0 c.requires c.in_ok-slots.ensures
    c.in_ok-filled.ensures
