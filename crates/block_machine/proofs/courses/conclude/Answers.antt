use Rattle.std.proofs.Common.{List, ℕ, ◌∙◌, ap, refl, sym, arith}
use Rattle.block_machine.specs.Statements.{succeeds}
use Rattle.block_machine.proofs.Answered.{concludes_told}
use Rattle.block_machine.proofs.Holding.{holding_some, built_some}
use Rattle.block_machine.proofs.Somes.{outcome_some}
use Rattle.block_machine.proofs.courses.conclude.Goals as goal

pub returns-in-Failed-clause-some : goal.returns-in-Failed-clause-some
returns-in-Failed-clause-some c = holding_some c.args.built.now.items c.fail.result c.fail.ensures.constant

pub returns : goal.returns
returns c = record {
  goes = λ known around outside said es.
      concludes_told c.args.description c.args.outcome.now c.args.block known around said es c.in_default.not-Failed
      ∙ ap (λ (bytes : List ℕ). succeeds bytes c.args.block known around said es) (sym c.in_ok-built.ensures);
  owed = refl;
  work = omega arith;
  quiet = tt;
  busy = tt;
  some = built_some c.in_ok-built.field-0.items _ c.args.block c.in_ok-built.ensures (outcome_some c.args.description c.args.outcome.now);
}
