use Rattle.std.proofs.Common.{◌-◌, arith}
use Rattle.std.proofs.lemmas.Option.{slice_get-get_or}
use Rattle.right_logs.proofs.seats.note_of.Goals as goal

pub returns : goal.returns
returns c = (c.args.session - 1, omega arith, slice_get-get_or c.args.notes.now (c.args.session - 1) _ (omega arith))
