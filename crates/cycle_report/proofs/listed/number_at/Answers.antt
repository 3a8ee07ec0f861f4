use Rattle.std.proofs.lemmas.Option.{slice_get-get_or}
use Rattle.cycle_report.proofs.listed.number_at.Goals as goal

pub returns : goal.returns
returns c = slice_get-get_or c.args.numbers.now c.args.place _ c.requires
