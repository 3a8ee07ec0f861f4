use Rattle.std.proofs.Common.{Err, refl, ap, inl, inr}
use Rattle.link_traits.specs.declared.host.HostFault.{HostFault}
use Rattle.monkey_server.proofs.run.stop.Goals as goal

pub returns-in-Err-Failed : goal.returns-in-Err-Failed
returns-in-Err-Failed g c = inr (inl (refl, c.in-Err-Failed.ensures.failed (ap (λ (e : HostFault). Err e) c.in-Err-Failed.field-0-is)))

pub returns-in-Err-Memory : goal.returns-in-Err-Memory
returns-in-Err-Memory g c = inr (inr (refl, c.in-Err-Memory.ensures.memory (ap (λ (e : HostFault). Err e) c.in-Err-Memory.field-0-is)))
