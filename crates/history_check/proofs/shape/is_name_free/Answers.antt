use Rattle.std.proofs.Common.{refl, sym, ◌∙◌}
use Rattle.std.proofs.lemmas.Bool.{false≢true}
use Rattle.history_check.proofs.NameLemmas.{names_to, names_from}
use Rattle.history_check.proofs.shape.is_name_free.Goals as goal

pub returns-then-has_name : goal.returns-then-has_name
returns-then-has_name c = (
  λ h. absurd (false≢true h),
  λ none. absurd (none (names_to c.args.before.now c.args.name.now (c.has_name.ensures.0 c.if-has_name.true))),
)

pub returns : goal.returns
returns c = (
  λ h member. false≢true (sym c.if-has_name.false ∙ c.has_name.ensures.1 (names_from c.args.before.now c.args.name.now member)),
  λ none. refl,
)
