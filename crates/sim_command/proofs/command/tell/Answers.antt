use Rattle.std.proofs.Common.{◌≡◌, ℕ, List, Some, inr, subst, sym, ◌∙◌}
use Rattle.history_core.specs.Chronicle.{Chronicle}
use Rattle.log_file.specs.Logging.{LogsAndPrints}
use Rattle.sim_command.proofs.command.tell.Goals as goal

pub returns-in-Ok-clause-simulates : goal.returns-in-Ok-clause-simulates
returns-in-Ok-clause-simulates g c =
    let both : Some c.store.result.now ≡ Some c.history.result.now = sym c.store.ensures.is ∙ c.history.ensures.is in
    let same : c.store.result.now ≡ c.history.result.now = cc in
    inr (inr (record {
      history = c.history.result.now;
      simulation = c.requires.simulation c.history.result.now c.history.ensures.is;
      line = c.in-Ok.line.items;
      summary = c.in-Ok.ensures;
      told = subst (λ (h : Chronicle). LogsAndPrints c.args.log.now h c.in-Ok.line.items (g.H.Host.hosted c.args.host.now)
          c.log_and_print.result.code (g.H.Host.hosted c.log_and_print.new.host)) same
          (subst (λ (line : List ℕ). LogsAndPrints c.args.log.now c.store.result.now line (g.H.Host.hosted c.args.host.now)
          c.log_and_print.result.code (g.H.Host.hosted c.log_and_print.new.host)) c.deref.ensures.value c.log_and_print.ensures.told);
    }))
