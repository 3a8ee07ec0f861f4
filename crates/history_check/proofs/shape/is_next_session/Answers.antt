use Rattle.std.proofs.Common.{◌≡◌, ◌-◌, arith, eq-eqb}
use Rattle.std.proofs.lemmas.Bool.Decides.{nat_tests}
use Rattle.std.proofs.lemmas.Bool.{false≢true}
use Rattle.history_check.proofs.shape.is_next_session.Goals as goal

pub returns-then-session-eq0 : goal.returns-then-session-eq0
returns-then-session-eq0 c = (λ h. absurd (false≢true h), λ is. absurd (let zero = c.if-session-eq0.true in omega arith))

pub returns : goal.returns
returns c =
    let count = c.count_opened.ensures in
    let nonzero = c.if-session-eq0.false in (
      λ h. let same : c.args.session - 1 ≡ c.count_opened.result = grind (arith, nat_tests, h) in omega arith,
      λ is. eq-eqb _ _ (omega arith),
    )
