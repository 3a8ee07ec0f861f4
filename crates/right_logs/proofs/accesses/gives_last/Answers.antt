use Rattle.std.proofs.Common.{sym, ◌∙◌}
use Rattle.right_logs.proofs.accesses.gives_last.Goals as goal

pub returns-in-Some : goal.returns-in-Some
returns-in-Some c = λ same. record { place = c.in-Some.place; last = sym c.get.ensures ∙ c.in-Some.is; written = c.holds.ensures same }
