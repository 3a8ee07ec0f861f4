use Rattle.axiom_cases.proofs.answers.trial.Goals as goal

pub trial-requires-clause-pending : goal.trial-requires-clause-pending
trial-requires-clause-pending c = (c.args.session, (c.pending.ensures c.in-Some.reader).0 c.in-Some.is)

pub trial-requires-in-Ra-clause-pending : goal.trial-requires-in-Ra-clause-pending
trial-requires-in-Ra-clause-pending c = (c.args.session, (c.pending.ensures c.in-Some.reader).0 c.in-Some.is)

pub trial-requires-in-Cc-clause-pending : goal.trial-requires-in-Cc-clause-pending
trial-requires-in-Cc-clause-pending c = (c.args.session, (c.pending.ensures c.in-Some.reader).0 c.in-Some.is)
