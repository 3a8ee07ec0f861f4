use Rattle.std.proofs.Common.{ℕ, List, sym, subst, arith}
use Rattle.history_core.specs.Chronicle.{Chronicle}
use Rattle.setup_session.specs.Setups.{Ran}
use Rattle.setup_session.proofs.Amiss.{amiss}
use Rattle.setup_session.proofs.run.run_setup.Goals as goal

pub returns-clause-err : goal.returns-clause-err
returns-clause-err c =
    amiss c.args.text.now c.serve-served.result c.written.result.now c.serve-served.new.book.seen c.in-Err.fault
    (omega (arith, c.if-text-gt-MOST_TEXT.false))
    (subst (λ (told : List ℕ). Ran c.args.text.now c.serve-served.result told c.serve-served.new.book.seen) (sym c.written.ensures)
    (c.serve-served.ensures c.args.text.now c.in_ok-link.ensures))
    c.in-Err.ensures.err

pub returns-in-Ok-clause-ok : goal.returns-in-Ok-clause-ok
returns-in-Ok-clause-ok c = record {
  few = omega (arith, c.if-text-gt-MOST_TEXT.false);
  outcome = c.serve-served.result;
  told = c.written.result.now;
  ran = subst (λ (history : Chronicle). Ran c.args.text.now c.serve-served.result c.written.result.now history) (sym c.into_store.ensures.is)
      (subst (λ (told : List ℕ). Ran c.args.text.now c.serve-served.result told c.serve-served.new.book.seen) (sym c.written.ensures)
      (c.serve-served.ensures c.args.text.now c.in_ok-link.ensures));
  well = c.in-Ok.ensures.ok;
}
