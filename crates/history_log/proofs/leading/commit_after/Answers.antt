use Rattle.history_log.proofs.LeadingLemmas.{commit_leads}
use Rattle.history_log.proofs.leading.commit_after.Goals as goal

pub returns : goal.returns
returns c = commit_leads c.in_ok-session.session c.args.text.now c.in_ok-session.rest.now c.in_ok-session.ensures.0 c.in_ok-session.ensures.1
