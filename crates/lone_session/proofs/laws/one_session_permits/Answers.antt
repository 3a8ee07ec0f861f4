use Rattle.history_core.proofs.Prefixes.{legal_consistent}
use Rattle.lone_session.proofs.OneSession.{IsOneSession, seen_permitted, permitted_seen}
use Rattle.lone_session.proofs.laws.one_session_permits.Goals as goal

pub returns : goal.returns
returns c initial events session reader level cell source legal one pending runs =
    let is : IsOneSession initial events = record { formed = legal.formed; one = one } in (
      permitted_seen initial events session reader source level cell is pending runs,
      seen_permitted initial events session reader source level cell is (legal_consistent initial events legal) pending runs,
    )
