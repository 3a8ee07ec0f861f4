use Rattle.std.proofs.Common.{◌≡◌, ◌<◌, ℕ, List, All, subst, sym, arith, inl}
use Rattle.session_hall.specs.Halls.{clients_of}
use Rattle.sim_command.specs.Simulations.{GoesOn, GoesToEnd, AreDrawn, AreDrawnFirst, IsSchedule, IsFront}
use Rattle.sim_command.proofs.Plays.{plays_on, plays_less, schedules, fronts, numbers_below}
use Rattle.sim_command.proofs.command.play_all.Goals as goal

pub play-requires-clause-range : goal.play-requires-clause-range
play-requires-clause-range c =
    let count = c.requires.count in
    let range = c.go_to_end.ensures.range in
    subst (λ (ns : List ℕ). All (λ k. k < clients_of c.go_to_end.new.hall) ns) (sym c.in-Ok-numbers_to.ensures)
    (numbers_below 1 c.args.plan.sessions (clients_of c.go_to_end.new.hall) (omega (arith, count, range)))

pub returns-in-Ok-play-clause-ok : goal.returns-in-Ok-play-clause-ok
returns-in-Ok-play-clause-ok c =
    plays_on (GoesToEnd 0) (AreDrawn c.new-words.result c.in-Ok-numbers_to.going.items) (IsSchedule c.args.plan.seed c.args.plan.sessions)
    (schedules c.args.plan.seed c.args.plan.sessions c.in-Ok-numbers_to.going.items c.in-Ok-numbers_to.ensures c.new-words.result c.new-words.ensures)
    c.args.left.now c.go_to_end.new.left c.play.new.left c.args.hall.now c.go_to_end.new.hall c.play.new.hall c.in-Ok.ensures.ok c.in-Ok-play.ensures.ok

pub returns-in-Err-clause-cut : goal.returns-in-Err-clause-cut
returns-in-Err-clause-cut c = λ is.
    let cut = c.in-Err.ensures.cut is in (
      cut.0,
      plays_less (GoesOn 0) (IsFront c.args.plan.seed c.args.plan.sessions) (λ picks goes. inl goes) c.args.left.now c.go_to_end.new.left c.args.hall.now
          c.go_to_end.new.hall cut.1,
    )

pub returns-clause-cut : goal.returns-clause-cut
returns-clause-cut c = λ is.
    let cut = c.in-Err-play.ensures.cut is in (
      cut.0,
      plays_on (GoesToEnd 0) (AreDrawnFirst c.new-words.result c.in-Ok-numbers_to.going.items) (IsFront c.args.plan.seed c.args.plan.sessions)
          (fronts c.args.plan.seed c.args.plan.sessions c.in-Ok-numbers_to.going.items c.in-Ok-numbers_to.ensures c.new-words.result c.new-words.ensures)
          c.args.left.now c.go_to_end.new.left c.play.new.left c.args.hall.now c.go_to_end.new.hall c.play.new.hall c.in-Ok.ensures.ok cut.1,
    )
