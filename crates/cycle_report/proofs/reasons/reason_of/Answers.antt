use Rattle.std.proofs.Common.{sym, ◌∙◌}
use Rattle.std.proofs.lemmas.Bool.{false≢true}
use Rattle.cycle_report.proofs.ReasonLemmas.{session_reason, read_reason}
use Rattle.cycle_report.proofs.reasons.reason_of.Goals as goal

pub returns-then-is_link : goal.returns-then-is_link
returns-then-is_link c = session_reason c.args.level c.args.view.now.events.now c.args.first c.args.second (c.is_link.ensures.0 c.if-is_link.true)

pub returns-in-Some : goal.returns-in-Some
returns-in-Some c =
    read_reason c.args.level c.args.view.now.events.now c.args.first c.args.second c.in-Some.event
    (λ next. false≢true (sym c.if-is_link.false ∙ c.is_link.ensures.1 next)) c.in-Some.ensures.some

pub axiom_of-requires-clause-apart : goal.axiom_of-requires-clause-apart
axiom_of-requires-clause-apart c = λ next. false≢true (sym c.if-is_link.false ∙ c.is_link.ensures.1 next)
