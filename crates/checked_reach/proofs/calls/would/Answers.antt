use Rattle.checked_reach.proofs.calls.would.Goals as goal

pub would_cycle-requires-clause-shared : goal.would_cycle-requires-clause-shared
would_cycle-requires-clause-shared c = (c.args.hub, c.all_touch.ensures.0 c.if-all_touch.true)
