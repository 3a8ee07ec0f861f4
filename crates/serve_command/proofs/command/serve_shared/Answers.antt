use Rattle.std.proofs.Common.{◌≡◌, ℕ, List, inl, inr, refl, ◌∙◌, ap, subst}
use Rattle.std.specs.Prelude.{Option, Some}
use Rattle.link_traits.specs.declared.host.HostFault.{HostFault}
use Rattle.link_traits.specs.declared.host.HostFault.TheVariants as faults
use Rattle.link_traits.specs.Host.{Hosted}
use Rattle.host_calls.specs.declared.status.Status.{Status}
use Rattle.doors.specs.Network.{Networked, open_failed}
use Rattle.history_core.specs.declared.event.Event.{Event}
use Rattle.history_core.specs.Chronicle.{Chronicle}
use Rattle.command_line.specs.declared.serve.ServeOptions.{ServeOptions}
use Rattle.shared_book.specs.Finish.{Finished}
use Rattle.shared_book.specs.Entries.{chronicle_of, event_lists}
use Rattle.serve_command.specs.Serving.{status_of, Ran, GoesOn}
use Rattle.serve_command.proofs.OneHistory.{one_history}
use Rattle.serve_command.proofs.command.serve_shared.Goals as goal

unopened : (options : ServeOptions) (start : Chronicle) (before after : Networked) (host : Hosted) (fault : HostFault) (code : ℕ) →
    (fault ≡ faults.Failed → after ≡ open_failed options.listen options.workers before) → (fault ≡ faults.Memory → after ≡ before) →
    code ≡ status_of (Some fault) 0 → GoesOn options start before host code after host
unopened options start before after host faults.Failed code failed memory is = inr (inl (is, failed refl, refl))
unopened options start before after host faults.Memory code failed memory is = inl (is, memory refl, refl)

pub returns-in-Ok-clause-goes_on : goal.returns-in-Ok-clause-goes_on
returns-in-Ok-clause-goes_on g c =
    let start = chronicle_of c.args.shared.start in
    let ran : Ran c.args.options.now start c.finish-store.result (g.N.Network.networked c.args.network.now) (event_lists c.run.new.pass) c.in-Ok.fault
    (g.N.Network.networked c.run.new.network) =
    c.in-Ok.ensures.ok c.finish-store.result c.finish-store.ensures.finished.legal c.finish-store.ensures.goes_on in
    let finished = subst (λ (lists : List (List Event)). Finished start lists c.finish-store.result) ran.lists_are c.finish-store.ensures.finished in
    let ended = c.conclude.ensures.ends in
    inr (inr (record {
      opened = ran.opened;
      returned = ran.returned;
      parts = ran.parts;
      history = c.finish-store.result;
      doors = ran.doors;
      are_parts = ran.are_parts;
      one_history = one_history start c.args.options.now.level c.args.options.now.seed c.args.options.now.accept 0
          ran.opened ran.returned ran.parts c.finish-store.result ran.are_parts finished;
      end_code = ended.0;
      ends = ended.1;
      code_is = ended.2 ∙ ap (λ (f : Option HostFault). status_of f ended.0) ran.fault_is;
    }))

pub returns-in-Err-clause-goes_on : goal.returns-in-Err-clause-goes_on
returns-in-Err-clause-goes_on g c =
    unopened c.args.options.now (chronicle_of c.args.shared.start) (g.N.Network.networked c.args.network.now) (g.N.Network.networked c.run.new.network)
    (g.H.Host.hosted c.args.host.now) c.in-Err.fault c.without-status.result.code c.in-Err.ensures.failed c.in-Err.ensures.memory
    (ap (λ (status : Status). status.code) c.without-status.ensures ∙ c.status_unopened.ensures)

pub finish-store-requires-clause-lock : goal.finish-store-requires-clause-lock
finish-store-requires-clause-lock g c = c.in-Ok.ensures.lock

pub finish-store-requires-clause-parts : goal.finish-store-requires-clause-parts
finish-store-requires-clause-parts g c = c.in-Ok.ensures.parts
