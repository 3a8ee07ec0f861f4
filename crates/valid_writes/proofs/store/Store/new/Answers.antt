use Rattle.std.proofs.Common.{ap, sym, subst}
use Rattle.history_core.specs.Chronicle.{Chronicle, IsLegalChronicle}
use Rattle.history_core.specs.Events.{opened}
use Rattle.forced_rows.specs.Rows.{AreRowsOf}
use Rattle.valid_writes.proofs.Standing.{legal_none}
use Rattle.valid_writes.proofs.store.Store.new.Goals as goal

pub invariant_of-result : goal.invariant_of-result
invariant_of-result c =
    let made = sym c.in_ok-history.ensures.ok in record {
      legal = subst IsLegalChronicle made (legal_none c.args.level c.args.initial c.in_ok-history.ensures.is);
      rows = subst (λ (history : Chronicle). AreRowsOf history.events c.in_ok-rows.rows) made c.in_ok-rows.ensures;
      count = ap (λ (history : Chronicle). opened history.events) made;
    }
