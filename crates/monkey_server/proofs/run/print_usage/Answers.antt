use Rattle.monkey_server.proofs.run.print_usage.Goals as goal

pub returns-clause-printed : goal.returns-clause-printed
returns-clause-printed g c = c.say.ensures.printed
