use Rattle.std.proofs.Common.{arith}
use Rattle.std.proofs.lemmas.Bool.{false≢true}
use Rattle.indexed_history.proofs.Indexes.{committed_bounded}
use Rattle.indexed_history.proofs.records.has_committed.Goals as goal

pub returns-then-number-begun : goal.returns-then-number-begun
returns-then-number-begun c = (
  λ h. absurd (false≢true h),
  λ committed. let few = committed_bounded c.args.history.now.events c.args.number committed in absurd (omega arith),
)
