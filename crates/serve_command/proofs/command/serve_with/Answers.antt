use Rattle.std.proofs.Common.{inl, refl, ap, subst}
use Rattle.host_calls.specs.declared.status.Status.{Status}
use Rattle.history_core.specs.Chronicle.{Chronicle}
use Rattle.serve_command.specs.Serving.{GoesOn}
use Rattle.serve_command.proofs.command.serve_with.Goals as goal

pub serve_shared-requires-clause-pass : goal.serve_shared-requires-clause-pass
serve_shared-requires-clause-pass g c κs within = c.in-Ok.ensures.pass.0

pub returns-in-Ok-clause-goes_on : goal.returns-in-Ok-clause-goes_on
returns-in-Ok-clause-goes_on g c =
    subst (λ (start : Chronicle). GoesOn c.args.options.now start (g.N.Network.networked c.args.network.now) (g.H.Host.hosted c.args.host.now)
    c.serve_shared.result.code (g.N.Network.networked c.serve_shared.new.network) (g.H.Host.hosted c.serve_shared.new.host)) c.in-Ok.ensures.is
    c.serve_shared.ensures.goes_on

pub returns-in-Err-clause-goes_on : goal.returns-in-Err-clause-goes_on
returns-in-Err-clause-goes_on g c = inl (ap (λ (status : Status). status.code) c.without-status.ensures, refl, refl)
