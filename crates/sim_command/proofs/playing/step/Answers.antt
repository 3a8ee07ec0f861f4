use Rattle.std.proofs.Common.{arith}
use Rattle.sim_command.proofs.Plays.{plays_one}
use Rattle.sim_command.proofs.playing.step.Goals as goal

pub returns-clause-ok : goal.returns-clause-ok
returns-clause-ok c =
    plays_one c.args.left.now _ c.args.hall.now c.step.new.self c.args.client c.in_ok-stepped.stepped (omega (arith, c.if-left-eq0.false)) c.requires.range
    c.in_ok-stepped.ensures.step
