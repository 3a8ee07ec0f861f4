use Rattle.history_log.proofs.LeadingLemmas.{head_begins}
use Rattle.history_log.proofs.leading.begin_of_head.Goals as goal

pub returns : goal.returns
returns c = head_begins c.args.head c.in_ok-session.session c.args.text.now c.in_ok-session.rest.now c.in_ok-session.ensures.0 c.in_ok-session.ensures.1
