use Rattle.std.proofs.Common.{◌≡◌, ◌∙◌, List, ℕ, [], subst}
use Rattle.sim_command.specs.Runs.{Pick}
use Rattle.sim_command.specs.Simulations.{DrawsTo, AreDrawn, AreDrawnFirst}
use Rattle.sim_command.specs.Playing.{Goes, IsPicked, AreNone}
use Rattle.sim_command.proofs.Plays.{plays_on, plays_less, draws_next, none_left, with_none}
use Rattle.sim_command.proofs.playing.play.Goals as goal

pub loop-hall-preserved : goal.loop-hall-preserved
loop-hall-preserved c =
    let first = c.args.words.now in
    let going : List ℕ = c.args.going.now.items in
    record {
      goes = plays_on (λ picks. DrawsTo first going picks c.loop-hall.words c.loop-hall.going.items)
          (IsPicked c.next.result c.loop-hall.going.items c.step_picked.new.going.items)
          (λ picks. DrawsTo first going picks c.next.new.self c.step_picked.new.going.items)
          (draws_next first c.loop-hall.words c.next.new.self going c.loop-hall.going.items c.step_picked.new.going.items c.next.result c.next.ensures)
          c.args.left.now c.loop-hall.left c.step_picked.new.left c.args.hall.now c.loop-hall.hall c.step_picked.new.hall
          c.loop-hall.invariant.goes c.in-Ok.ensures.ok;
      hall = c.step_picked.ensures.hall;
      range = c.step_picked.ensures.range ∙ c.loop-hall.invariant.range;
      below = c.in-Ok.ensures.going;
    }

pub returns-in-Err-clause-cut : goal.returns-in-Err-clause-cut
returns-in-Err-clause-cut c = λ is.
    let cut = c.in-Err.ensures.cut is in
    let first = c.args.words.now in
    let going : List ℕ = c.args.going.now.items in
    let Drawn : List Pick → Type 0 = λ picks. DrawsTo first going picks c.loop-hall.words c.loop-hall.going.items in (
      cut.0,
      plays_on Drawn AreNone (AreDrawnFirst first going)
          (λ picks more draws none. record { rest = c.loop-hall.words; left = c.loop-hall.going.items; draws = with_none Drawn picks more draws none })
          c.args.left.now c.loop-hall.left c.step_picked.new.left c.args.hall.now c.loop-hall.hall c.step_picked.new.hall
          c.loop-hall.invariant.goes cut.1,
    )

pub returns-clause-ok : goal.returns-clause-ok
returns-clause-ok c =
    let first = c.args.words.now in
    let going : List ℕ = c.args.going.now.items in
    let empty : c.loop-hall.going.items ≡ [] = none_left c.loop-hall.going.items _ c.loop-hall.going.ok.0 c.loop-hall-test.ensures in
    plays_less (λ picks. DrawsTo first going picks c.loop-hall.words c.loop-hall.going.items) (AreDrawn first going)
    (λ picks draws. record { rest = c.loop-hall.words; draws = subst (λ (left : List ℕ). DrawsTo first going picks c.loop-hall.words left) empty draws })
    c.args.left.now c.loop-hall.left c.args.hall.now c.loop-hall.hall c.loop-hall.invariant.goes
