use Rattle.history_cases.proofs.Pairs.{between_first}
use Rattle.history_cases.proofs.limit.fill.Goals as goal

pub commit_many-requires : goal.commit_many-requires
commit_many-requires c = rw (c.in_ok-push.ensures.ok, c.requires) between_first
