-- What is left to show of `said_by`.
use Rattle.clap.specs.Words.{app_of}
use Rattle.command_line.proofs.Free.{simple_of}
use Rattle.command_line.proofs.said.said_by.Goals as goal

pub returns-in-Ok-clause-said : goal.returns-in-Ok-clause-said
returns-in-Ok-clause-said c = (c.in-Ok.ensures.matches (simple_of (app_of c.args.command) c.requires)).0
