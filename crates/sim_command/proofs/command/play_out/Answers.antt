use Rattle.std.proofs.Common.{◌≡◌, ◌<◌, ℕ, ap, sym, ◌∙◌, arith}
use Rattle.sim_command.specs.Runs.{at_first}
use Rattle.sim_command.proofs.Plays.{clients_count, same_history}
use Rattle.sim_command.proofs.command.play_out.Goals as goal

pub returns-in-Err-clause-cut : goal.returns-in-Err-clause-cut
returns-in-Err-clause-cut c = λ is.
    let plan = c.args.plan in
    let new = c.requires.new in
    let cut = c.in-Err.ensures.cut is in
    let plays = cut.1 plan.level new.clients (at_first plan.level) new.stands in
    let count = plays.count in
    let none = cut.0 in
    record {
      clients = new.clients;
      are = new.are;
      picks = plays.picks;
      last = plays.after;
      front = plays.holds;
      run = plays.runs;
      many = omega (arith, count, none);
    }

pub returns-then-are_at_rest-clause-ok : goal.returns-then-are_at_rest-clause-ok
returns-then-are_at_rest-clause-ok c = λ history is.
    let plan = c.args.plan in
    let new = c.requires.new in
    let plays = c.in-Ok.ensures.ok plan.level new.clients (at_first plan.level) new.stands in
    let many = clients_count plan.seed plan.sessions plan.queries new.clients new.are in
    record {
      clients = new.clients;
      are = new.are;
      picks = plays.picks;
      last = plays.after;
      schedule = plays.holds;
      run = plays.runs;
      at_rest = λ k small. c.are_at_rest.ensures c.if-are_at_rest.true plan.level new.clients plays.after plays.stands k (omega (arith, small, many));
      history_is = same_history c.play_all.new.hall.store plays.after.history history plays.stands.store is;
    }
