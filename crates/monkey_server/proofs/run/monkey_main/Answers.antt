use Rattle.std.proofs.Common.{refl, inl, inr}
use Rattle.monkey_server.proofs.run.monkey_main.Goals as goal

pub returns-in-Ok-clause-does : goal.returns-in-Ok-clause-does
returns-in-Ok-clause-does g c = inl (c.in-Ok.line, c.in-Ok.ensures, c.obey.ensures.obeys)

pub returns-in-Err-clause-does : goal.returns-in-Err-clause-does
returns-in-Err-clause-does g c = inr ((refl, refl), refl)
