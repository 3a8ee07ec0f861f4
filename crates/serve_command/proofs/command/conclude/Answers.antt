use Rattle.std.proofs.Common.{◌∙◌, ap}
use Rattle.host_calls.specs.declared.status.Status.{Status}
use Rattle.serve_command.proofs.command.conclude.Goals as goal

pub returns-clause-ends : goal.returns-clause-ends
returns-clause-ends g c = (
  c.end-status.result.code,
  c.end-status.ensures.ends,
  ap (λ (status : Status). status.code) c.without.ensures ∙ c.status_after.ensures,
)
