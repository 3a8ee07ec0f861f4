use Rattle.std.proofs.Common.{ℕ, List, sym, subst}
use Rattle.std.specs.Prelude.{IfSome}
use Rattle.history_log.specs.Leading.{IsLeading}
use Rattle.history_log.specs.Compact.{compact_write}
use Rattle.history_log.proofs.leading.leading_write.Goals as goal

pub returns : goal.returns
returns c = subst (λ (t : List ℕ). IfSome c.write_after.result (λ x. IsLeading (compact_write x.0) t x.1.now)) (sym c.in_ok-rest.ensures) c.write_after.ensures
