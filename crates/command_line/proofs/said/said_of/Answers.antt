-- The command that is built is the one of the definition.
use Rattle.std.proofs.Common.{map}
use Rattle.clap.specs.Words.{app_of}
use Rattle.command_line.proofs.Free.{free_as}
use Rattle.command_line.proofs.Names.{says_as, refused_as}
use Rattle.command_line.proofs.said.said_of.Goals as goal

pub said_by-requires : goal.said_by-requires
said_by-requires c = free_as c.args.name (app_of c.in_ok-command.command) c.in_ok-command.ensures

pub returns-clause-some : goal.returns-clause-some
returns-clause-some c =
    says_as c.args.name (app_of c.in_ok-command.command) (map (λ w. w.now) c.args.words.now) c.said_by.result c.in_ok-command.ensures
    c.said_by.ensures.taken c.said_by.ensures.said

pub returns-clause-none : goal.returns-clause-none
returns-clause-none c =
    refused_as c.args.name (app_of c.in_ok-command.command) (map (λ w. w.now) c.args.words.now) c.said_by.result c.in_ok-command.ensures
    c.said_by.ensures.refused
