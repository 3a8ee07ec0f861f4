use Rattle.cell_base.specs.declared.level.Level.TheVariants.{Ra}
use Rattle.history_cases.proofs.Pairs.{begun_pending, between_next}
use Rattle.history_cases.proofs.limit.commit_one.Goals as goal

pub end-requires-clause-follows : goal.end-requires-clause-follows
end-requires-clause-follows c = rw (c.in_ok-push.ensures.ok, c.begin.ensures) (begun_pending c.args.history.now.events Ra)

pub returns : goal.returns
returns c = rw (c.end.ensures, c.in_ok-push.ensures.ok, c.begin.ensures) (between_next c.args.history.now.events Ra c.requires)
