use Rattle.std.proofs.Common.{ℕ, List, sym, subst}
use Rattle.std.specs.List.{Contains}
use Rattle.history_core.specs.Events.{session_in}
use Rattle.history_core.proofs.Prefixes.{start_bounded}
use Rattle.cycle_report.proofs.ListLemmas.{listed_number, news_listed}
use Rattle.cycle_report.proofs.pairs.add_asked.Goals as goal

pub span_at-top-requires-clause-number : goal.span_at-top-requires-clause-number
span_at-top-requires-clause-number c =
    let of = c.requires.read.of in start_bounded c.args.view.now.events.now c.args.reader (session_in c.args.event.now) of.start of.starts

pub add_among-requires-clause-numbers : goal.add_among-requires-clause-numbers
add_among-requires-clause-numbers c = λ number there.
    listed_number c.args.view.now.events.now c.args.view.now.txns.now c.args.view.now.writers.now c.requires.view.txns_are c.requires.view.writers_are c.in-Read.cell
    number (subst (λ (ns : List ℕ). Contains ns number) c.writers_at-numbers.ensures there)

pub add_among-requires-clause-whole : goal.add_among-requires-clause-whole
add_among-requires-clause-whole c = λ a b news.
    subst (λ (ns : List ℕ). Contains ns a) (sym c.writers_at-numbers.ensures)
    (news_listed c.args.level c.args.view.now.events.now c.args.view.now.txns.now c.args.view.now.writers.now c.requires.view.orderly c.requires.view.txns_are
    c.requires.view.writers_are c.args.place _ _ _ _ c.in-Read.cell _ c.args.reader (rw c.in-Read.is at c.requires.read) a b news)
