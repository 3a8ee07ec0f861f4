use Rattle.std.proofs.Common.{ℕ, List, subst}
use Rattle.host_calls.specs.Printing.{Printed}
use Rattle.monkey_server.proofs.run.help.Goals as goal

pub returns-clause-printed : goal.returns-clause-printed
returns-clause-printed g c =
    subst (λ (line : List ℕ). Printed line 0 (g.H.Host.hosted c.args.host.now) c.say.result.code (g.H.Host.hosted c.say.new.host))
    c.help_text.ensures c.say.ensures.printed
