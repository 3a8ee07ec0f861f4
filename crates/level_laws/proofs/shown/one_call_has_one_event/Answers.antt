use Rattle.level_laws.proofs.OneNext.{next_of_legal}
use Rattle.level_laws.proofs.shown.one_call_has_one_event.Goals as goal

pub returns : goal.returns
returns c = next_of_legal
