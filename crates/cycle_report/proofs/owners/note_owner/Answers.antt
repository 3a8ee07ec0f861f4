use Rattle.order_test.proofs.Owners.{owners_push}
use Rattle.cycle_report.proofs.owners.note_owner.Goals as goal

pub returns : goal.returns
returns c =
    rw c.in_ok-push.ensures.items (owners_push c.args.before.now c.args.event.now c.args.owners.now.items c.args.owner c.requires.owner c.requires.owners)
