use Rattle.std.proofs.Common.{ℕ, List, sym, subst}
use Rattle.std.specs.Prelude.{IfSome}
use Rattle.history_core.specs.declared.event.Event.TheVariants.{Commit}
use Rattle.history_log.specs.Leading.{IsLeading}
use Rattle.history_log.proofs.leading.leading_commit.Goals as goal

pub returns : goal.returns
returns c = subst (λ (t : List ℕ). IfSome c.commit_after.result (λ x. IsLeading (Commit x.0) t x.1.now)) (sym c.in_ok-rest.ensures) c.commit_after.ensures
