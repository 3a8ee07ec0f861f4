use Rattle.std.proofs.Common.{inl, inr}
use Rattle.std.proofs.lemmas.Bool.{false≢true}
use Rattle.saturation.proofs.Sights.{writes_later}
use Rattle.history_check.proofs.keys.is_written.Goals as goal

pub returns-in-None : goal.returns-in-None
returns-in-None c = (
  λ h. absurd (false≢true h),
  λ is. elim is [
    | inl later ↦ absurd (c.in-None.ensures.none later.0 (writes_later c.args.before.now later.0 c.args.cell.now later.1 later.2).1)
    | inr own ↦ absurd (c.in-None.ensures.none own.number own.written)
  ],
)
