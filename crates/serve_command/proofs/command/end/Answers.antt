use Rattle.std.proofs.Common.{ℕ, List, subst, ◌∙◌, ap, inl}
use Rattle.history_core.specs.Chronicle.{Chronicle}
use Rattle.serve_command.specs.Line.{served_line}
use Rattle.log_file.specs.Logging.{LogsAndPrints}
use Rattle.serve_command.proofs.command.end.Goals as goal

pub returns-in-Ok-clause-ends : goal.returns-in-Ok-clause-ends
returns-in-Ok-clause-ends g c = inl (
    subst (λ (line : List ℕ). LogsAndPrints c.args.options.now.log c.args.store.now line (g.H.Host.hosted c.args.host.now) c.log_and_print.result.code
    (g.H.Host.hosted c.log_and_print.new.host)) (c.deref.ensures.value ∙ c.in-Ok.ensures ∙ ap (λ (h : Chronicle). served_line h.events) c.history.ensures.is) c.log_and_print.ensures.told
    )
