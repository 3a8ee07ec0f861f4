use Rattle.std.proofs.Common.{refl, inl, arith}
use Rattle.std.proofs.lemmas.Bool.{false≢true}
use Rattle.saturation.proofs.Decides.{initial_ordered}
use Rattle.axiom_base.proofs.Views.{nothing_precedes_initial}
use Rattle.axiom_base.proofs.precedence.precedes.Goals as goal

pub returns-then-second-eq0 : goal.returns-then-second-eq0
returns-then-second-eq0 c = (
  λ h. absurd (false≢true h),
  λ precedes. absurd (nothing_precedes_initial c.args.history.now.events c.args.first c.args.second c.if-second-eq0.true precedes),
)

pub returns-then-first-eq0 : goal.returns-then-first-eq0
returns-then-first-eq0 c = (
  λ h. inl (initial_ordered c.args.history.now.events c.args.first c.args.second c.if-first-eq0.true (omega arith) c.requires),
  λ precedes. refl,
)
