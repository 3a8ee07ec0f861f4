use Rattle.std.proofs.Common.{◌≡◌, ℕ, Some, None, sym, ◌∙◌, subst}
use Rattle.std.proofs.lemmas.Bool.{false≢true}
use Rattle.history_core.specs.Relations.{HasWritten}
use Rattle.history_check.proofs.sources.wrote_itself.Goals as goal

pub returns-in-Some : goal.returns-in-Some
returns-in-Some c = (
  λ h. record { number = c.in-Some.number; pending = (c.pending_in.ensures c.in-Some.number).0 c.in-Some.is; written = c.has_written.ensures.0 h },
  λ wrote.
      let both : Some wrote.number ≡ Some c.in-Some.number = sym ((c.pending_in.ensures wrote.number).1 wrote.pending) ∙ c.in-Some.is in
      let same : wrote.number ≡ c.in-Some.number = cc in
      c.has_written.ensures.1 (subst (λ (n : ℕ). HasWritten c.args.before.now n c.args.cell.now) same wrote.written),
)

pub returns-in-None : goal.returns-in-None
returns-in-None c = (
  λ h. absurd (false≢true h),
  λ wrote. absurd (let both : None ≡ Some wrote.number = sym c.in-None.is ∙ (c.pending_in.ensures wrote.number).1 wrote.pending in cc),
)
