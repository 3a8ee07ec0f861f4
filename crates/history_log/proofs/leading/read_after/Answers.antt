use Rattle.history_log.specs.Compact.{compact_cell, compact_value}
use Rattle.history_log.proofs.LeadingLemmas.{read_leads}
use Rattle.history_log.proofs.leading.read_after.Goals as goal

pub returns : goal.returns
returns c =
    read_leads c.in_ok-session.session (compact_cell c.in_ok-session.cell) c.in_ok-source.source c.in_ok-source.count c.in_ok-source.word (compact_value c.in_ok-value.value)
    c.args.text.now c.in_ok-session.rest.now c.in_ok-source.rest.now c.in_ok-value.rest.now
    c.in_ok-session.ensures.0 c.in_ok-session.ensures.1 c.in_ok-source.ensures.0 c.in_ok-source.ensures.1 c.in_ok-source.ensures.2 c.in_ok-value.ensures.0
    c.in_ok-session.ensures.2 c.in_ok-source.ensures.3 c.in_ok-value.ensures.1
