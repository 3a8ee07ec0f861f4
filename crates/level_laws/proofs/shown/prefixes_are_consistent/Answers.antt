use Rattle.level_laws.proofs.Earlier.{consistent_take}
use Rattle.level_laws.proofs.shown.prefixes_are_consistent.Goals as goal

pub returns : goal.returns
returns c = consistent_take
