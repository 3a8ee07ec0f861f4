use Rattle.std.proofs.Common.{◌≤◌, subst, sym, ℕ}
use Rattle.std.proofs.lemmas.Bool.{leb-true, le-leb}
use Rattle.cycle_report.proofs.sight.precedes_causally.Goals as goal

pub returns : goal.returns
returns c =
    let both = c.past_of-past.ensures.exact c.txn_of.result.now.session c.args.writer c.txn_of.ensures.place c.txn_of.ensures.started in
    let top = c.top_of.ensures in (
      λ h. both.0 (subst (λ (n : ℕ). c.args.writer ≤ n) top (leb-true c.args.writer c.top_of.result h)),
      λ chain. le-leb c.args.writer c.top_of.result (subst (λ (n : ℕ). c.args.writer ≤ n) (sym top) (both.1 chain)),
    )
