use Rattle.std.proofs.Common.{◌≡◌, ℕ, Some, None, sym, ◌∙◌, subst}
use Rattle.std.proofs.lemmas.Bool.{false≢true}
use Rattle.history_core.specs.Relations.{LastWrites}
use Rattle.history_check.proofs.sources.gives_own_value.Goals as goal

pub returns-in-Some : goal.returns-in-Some
returns-in-Some c = (
  λ h. (c.in-Some.number, (c.pending_in.ensures c.in-Some.number).0 c.in-Some.is, c.wrote_last.ensures.0 h),
  λ wrote.
      let both : Some wrote.0 ≡ Some c.in-Some.number = sym ((c.pending_in.ensures wrote.0).1 wrote.1) ∙ c.in-Some.is in
      let same : wrote.0 ≡ c.in-Some.number = cc in
      c.wrote_last.ensures.1 (subst (λ (n : ℕ). LastWrites c.args.before.now n c.args.cell.now c.args.value.now) same wrote.2),
)

pub returns-in-None : goal.returns-in-None
returns-in-None c = (
  λ h. absurd (false≢true h),
  λ wrote. absurd (let both : None ≡ Some wrote.0 = sym c.in-None.is ∙ (c.pending_in.ensures wrote.0).1 wrote.1 in cc),
)
