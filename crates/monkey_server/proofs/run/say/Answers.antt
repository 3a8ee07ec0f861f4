use Rattle.std.proofs.Common.{ℕ, List, subst}
use Rattle.host_calls.specs.Printing.{Printed}
use Rattle.monkey_server.proofs.run.say.Goals as goal

pub returns-clause-printed : goal.returns-clause-printed
returns-clause-printed g c =
    subst (λ (line : List ℕ). Printed line c.args.whole.code (g.H.Host.hosted c.args.host.now) c.print-status.result.code (g.H.Host.hosted c.print-status.new.host))
    c.as_bytes.ensures.value c.print-status.ensures.printed
