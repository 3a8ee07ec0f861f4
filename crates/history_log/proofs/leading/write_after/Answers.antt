use Rattle.history_log.specs.Compact.{compact_cell, compact_value}
use Rattle.history_log.proofs.LeadingLemmas.{write_leads}
use Rattle.history_log.proofs.leading.write_after.Goals as goal

pub returns : goal.returns
returns c =
    write_leads c.in_ok-session.session (compact_cell c.in_ok-session.cell) (compact_value c.in_ok-value.value) c.args.text.now c.in_ok-session.rest.now c.in_ok-value.rest.now
    c.in_ok-session.ensures.0 c.in_ok-session.ensures.1 c.in_ok-value.ensures.0 c.in_ok-session.ensures.2 c.in_ok-value.ensures.1
