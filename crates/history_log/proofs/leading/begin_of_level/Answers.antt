use Rattle.history_log.proofs.LeadingLemmas.{level_begins}
use Rattle.history_log.proofs.leading.begin_of_level.Goals as goal

pub returns : goal.returns
returns c =
    level_begins c.args._version c.args._head c.in_ok-session.session c.in_ok-level.level c.args.text.now c.in_ok-session.rest.now c.in_ok-level.rest.now
    c.requires c.in_ok-session.ensures.0 c.in_ok-session.ensures.1 c.in_ok-level.ensures
