use Rattle.std.proofs.Common.{sym, ◌∙◌}
use Rattle.std.proofs.lemmas.Bool.{false≢true}
use Rattle.history_check.proofs.sources.wrote_last.Goals as goal

pub writes_value-requires : goal.writes_value-requires
writes_value-requires c = c.requires.sound c.args.number c.in-Some.place (sym c.get.ensures ∙ c.in-Some.is)

pub returns-in-None : goal.returns-in-None
returns-in-None c = (
  λ h. absurd (false≢true h),
  λ last. absurd (c.requires.whole c.args.number (record { place = last.place; session = last.session; value = c.args.value.now; write = last.write }) (sym c.get.ensures ∙ c.in-None.is)),
)
